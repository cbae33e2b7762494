-- What stands behind the last event.
use Rattle.std.specs.Prelude.{ℕ, Bool, List, slice_index_or}
use Rattle.scales.specs.Scales.{Ops}
use Rattle.semantics.specs.Automata.{Location, nowhere}
use Rattle.semantics.specs.Values.{test}
use Rattle.evaluation.specs.declared.boundary.Boundary.{Boundary}
use Rattle.evaluation.specs.declared.boundary.Boundary.TheVariants.{Run, Lowest, Highest}

-- for a location, by whether it is final
abbrev pub behind : {G : Type 0} → Ops G → Boundary → Bool → G
behind S Run final = test S final
behind S Lowest final = S.low
behind S Highest final = S.high

-- for each location of an automaton, whatever its start
abbrev pub after : {G : Type 0} → Ops G → List Location → Boundary → ℕ → ℕ → G
after S A b l s = behind S b (slice_index_or A l nowhere).final
