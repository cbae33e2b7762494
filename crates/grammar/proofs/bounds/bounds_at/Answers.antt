use Rattle.std.proofs.Common.{refl}
use Rattle.grammar.specs.Grammar.{absent, given, whole}
use Rattle.grammar.proofs.Absences.{no_bounds, some_weaker}
use Rattle.grammar.proofs.bounds.bounds_at.Goals as goal

pub returns-in-Some : goal.returns-in-Some
returns-in-Some c = some_weaker c.closed.result (λ p I u h. no_bounds c.in-Some.ensures p h) (λ x a. record { I = a.I; reads = given c.in-Some.ensures a.reads; value = a.value }) c.closed.ensures

pub returns-in-None : goal.returns-in-None
returns-in-None c = record { I = whole; reads = absent c.in-None.ensures; value = refl }
