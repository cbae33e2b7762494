-- The forms of a rule, numbered as they end.
use Rattle.std.specs.Prelude.{List, [], ◌∷◌, ◌++◌}
use Rattle.semantics.specs.Forms.{Form, top, bottom, fact, opposite, both, either, implies, next, dual_next, eventually, always, until, release}

-- the forms inside a form, and the form, inner before outer
unfoldable pub ended : Form → List Form
ended top = top ∷ []
ended bottom = bottom ∷ []
ended (fact p) = fact p ∷ []
ended (opposite f) = ended f ++ (opposite f ∷ [])
ended (both f g) = ended f ++ (ended g ++ (both f g ∷ []))
ended (either f g) = ended f ++ (ended g ++ (either f g ∷ []))
ended (implies f g) = ended f ++ (ended g ++ (implies f g ∷ []))
ended (next I f) = ended f ++ (next I f ∷ [])
ended (dual_next I f) = ended f ++ (dual_next I f ∷ [])
ended (eventually I f) = ended f ++ (eventually I f ∷ [])
ended (always I f) = ended f ++ (always I f ∷ [])
ended (until I f g) = ended f ++ (ended g ++ (until I f g ∷ []))
ended (release I f g) = ended f ++ (ended g ++ (release I f g ∷ []))
