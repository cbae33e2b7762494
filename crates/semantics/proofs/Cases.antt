-- The worked cases, by computation.
use Rattle.std.proofs.Common.{refl}
use Rattle.semantics.specs.Forms.{forms, grade}
use Rattle.semantics.specs.Normals.{normal, normal_forms, temporals}
use Rattle.semantics.specs.Automata.{transition, locations_of}
use Rattle.semantics.specs.Values.{clause_value, value_before}
use Rattle.semantics.specs.Cells.{size, cells, entries_of}
use Rattle.semantics.specs.Worked.{WorkedCases}

infixr 20 ◌also◌
-- one case, and the rest of them
◌also◌ : {A B : Type 0} → A → B → A × B
a also b = (a, b)

pub worked_cases_lem : WorkedCases
unfolding forms grade normal normal_forms temporals transition locations_of clause_value value_before size cells entries_of
worked_cases_lem =
    (refl, refl) also (refl, refl) also (refl, refl) also (refl, refl) also (refl, refl) also (refl, refl) also (refl, refl) also
    (refl, refl) also (refl, refl) also (refl, refl) also (refl, refl) also (refl, refl) also (refl, refl, refl, refl) also
    (refl, refl) also (refl, refl) also (refl, refl) also tt
