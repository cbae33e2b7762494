-- The normal form, in which only facts are opposed, and its grade.
use Rattle.std.specs.Prelude.{ℕ, ◌+◌, Bool, true, false, not, List, [], ◌∷◌, ◌++◌}
use Rattle.scales.specs.Scales.{Ops}
use Rattle.semantics.specs.Words.{Word}
use Rattle.semantics.specs.Forms.{Interval, Form, stepped, until_grade, release_grade}

-- `1`, `0`, facts, opposed facts, `&`, `|`, `X`, `Y`, `U`, `R`
pub data Normal : Type 0 where
  top bottom : Normal
  fact opposed : ℕ → Normal
  both either : Normal → Normal → Normal
  next dual_next : Interval → Normal → Normal
  until release : Interval → Normal → Normal → Normal

-- the normal form of f and, at false, that of its opposite
unfoldable pub normal : Bool → Form → Normal
normal true Form.top = top
normal false Form.top = bottom
normal true Form.bottom = bottom
normal false Form.bottom = top
normal true (Form.fact p) = fact p
normal false (Form.fact p) = opposed p
normal b (Form.opposite f) = normal (not b) f
normal true (Form.both f g) = both (normal true f) (normal true g)
normal false (Form.both f g) = either (normal false f) (normal false g)
normal true (Form.either f g) = either (normal true f) (normal true g)
normal false (Form.either f g) = both (normal false f) (normal false g)
normal true (Form.implies f g) = either (normal false f) (normal true g)
normal false (Form.implies f g) = both (normal true f) (normal false g)
normal true (Form.next I f) = next I (normal true f)
normal false (Form.next I f) = dual_next I (normal false f)
normal true (Form.dual_next I f) = dual_next I (normal true f)
normal false (Form.dual_next I f) = next I (normal false f)
normal true (Form.eventually I f) = until I top (normal true f)
normal false (Form.eventually I f) = release I bottom (normal false f)
normal true (Form.always I f) = release I bottom (normal true f)
normal false (Form.always I f) = until I top (normal false f)
normal true (Form.until I f g) = until I (normal true f) (normal true g)
normal false (Form.until I f g) = release I (normal false f) (normal false g)
normal true (Form.release I f g) = release I (normal true f) (normal true g)
normal false (Form.release I f g) = until I (normal false f) (normal false g)

-- how many forms a normal form has, itself and all inside it
unfoldable pub normal_forms : Normal → ℕ
normal_forms top = 1
normal_forms bottom = 1
normal_forms (fact p) = 1
normal_forms (opposed p) = 1
normal_forms (both f g) = normal_forms f + normal_forms g + 1
normal_forms (either f g) = normal_forms f + normal_forms g + 1
normal_forms (next I f) = normal_forms f + 1
normal_forms (dual_next I f) = normal_forms f + 1
normal_forms (until I f g) = normal_forms f + normal_forms g + 1
normal_forms (release I f g) = normal_forms f + normal_forms g + 1

-- its `X`, `Y`, `U` and `R` forms as they end, inner before outer and left before right
unfoldable pub temporal_forms : Normal → List Normal
temporal_forms top = []
temporal_forms bottom = []
temporal_forms (fact p) = []
temporal_forms (opposed p) = []
temporal_forms (both f g) = temporal_forms f ++ temporal_forms g
temporal_forms (either f g) = temporal_forms f ++ temporal_forms g
temporal_forms (next I f) = temporal_forms f ++ (next I f ∷ [])
temporal_forms (dual_next I f) = temporal_forms f ++ (dual_next I f ∷ [])
temporal_forms (until I f g) = temporal_forms f ++ (temporal_forms g ++ (until I f g ∷ []))
temporal_forms (release I f g) = temporal_forms f ++ (temporal_forms g ++ (release I f g ∷ []))

-- how many they are
unfoldable pub temporals : Normal → ℕ
temporals top = 0
temporals bottom = 0
temporals (fact p) = 0
temporals (opposed p) = 0
temporals (both f g) = temporals f + temporals g
temporals (either f g) = temporals f + temporals g
temporals (next I f) = temporals f + 1
temporals (dual_next I f) = temporals f + 1
temporals (until I f g) = temporals f + temporals g + 1
temporals (release I f g) = temporals f + temporals g + 1

-- f is an until or a release
abbrev pub waits : Normal → Bool
waits top = false
waits bottom = false
waits (fact p) = false
waits (opposed p) = false
waits (both f g) = false
waits (either f g) = false
waits (next I f) = false
waits (dual_next I f) = false
waits (until I f g) = true
waits (release I f g) = true

module _ {G : Type 0} (S : Ops G) (w : Word G) where
  -- the pointwise grade of a normal form at event i
  unfoldable pub normal_grade : Normal → ℕ → G
  normal_grade top i = S.high
  normal_grade bottom i = S.low
  normal_grade (fact p) i = w.fact p i
  normal_grade (opposed p) i = S.opposite (w.fact p i)
  normal_grade (both f g) i = S.meet (normal_grade f i) (normal_grade g i)
  normal_grade (either f g) i = S.join (normal_grade f i) (normal_grade g i)
  normal_grade (next I f) i = stepped S w S.low I (normal_grade f) i
  normal_grade (dual_next I f) i = stepped S w S.high I (normal_grade f) i
  normal_grade (until I f g) i = until_grade S w I (normal_grade f) (normal_grade g) i
  normal_grade (release I f g) i = release_grade S w I (normal_grade f) (normal_grade g) i
