use Rattle.std.proofs.Common.{Some, refl, ap}
use Rattle.semantics.specs.Forms.{none, upto}
use Rattle.grammar.specs.Grammar.{no_end, an_end}
use Rattle.grammar.proofs.Absences.{no_upper}
use Rattle.grammar.proofs.bounds.upper.Goals as goal

pub returns-in-Some : goal.returns-in-Some
returns-in-Some c = record { n = none; reads = no_end c.in-Some.ensures; value = refl }

pub returns-in_err-value : goal.returns-in_err-value
returns-in_err-value c = rw c.from_residual.ensures (λ n u h. no_upper c.in_default.ensures c.in_err-value.ensures h)

pub returns : goal.returns
returns c = let a = c.in_ok-value.ensures in record { n = upto a.n; reads = an_end a.reads; value = ap Some a.value }
