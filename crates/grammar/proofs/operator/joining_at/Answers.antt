use Rattle.std.proofs.Common.{sym, refl}
use Rattle.grammar.specs.Grammar.{whole}
use Rattle.grammar.proofs.Absences.{bare_joining, sign_as}
use Rattle.grammar.proofs.operator.joining_at.Goals as goal

pub returns-in_default : goal.returns-in_default
returns-in_default c = record {
  I = whole;
  reads = record { after = _; sign = sign_as (sym c.in_ok-how.ensures) c.in_ok-sign.ensures; bounds = bare_joining c.in_ok-how.how _ c.in_default.not-Until c.in_default.not-Release };
  value = refl;
}
