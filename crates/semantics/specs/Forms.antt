-- The forms of a rule, and the grade of each at each event.
use Rattle.std.specs.Prelude.{ℕ, suc, ◌+◌, ◌-◌, Bool, true, cond, ◌&&◌, nat_le, nat_lt}
use Rattle.scales.specs.Scales.{Ops, joins, meets}
use Rattle.semantics.specs.Words.{Word, elapsed}

-- the upper end of an interval, if it has one
pub data Upper : Type 0 where
  none : Upper
  upto : ℕ → Upper

-- a closed interval in whole milliseconds
pub record Interval : Type 0 where
  pub lower : ℕ
  pub upper : Upper

-- x is at most the upper end
abbrev pub within_upper : Upper → ℕ → Bool
within_upper none x = true
within_upper (upto u) x = nat_le x u

-- x lies in the interval
abbrev pub inside : Interval → ℕ → Bool
inside I x = nat_le I.lower x && within_upper I.upper x

-- `1`, `0`, facts by number, `!`, `&`, `|`, `>`, `X`, `Y`, `F`, `G`, `U`, `R`
pub data Form : Type 0 where
  top bottom : Form
  fact : ℕ → Form
  opposite : Form → Form
  both either implies : Form → Form → Form
  next dual_next eventually always : Interval → Form → Form
  until release : Interval → Form → Form → Form

-- how many forms a form has, itself and all inside it
unfoldable pub forms : Form → ℕ
forms top = 1
forms bottom = 1
forms (fact p) = 1
forms (opposite f) = forms f + 1
forms (both f g) = forms f + forms g + 1
forms (either f g) = forms f + forms g + 1
forms (implies f g) = forms f + forms g + 1
forms (next I f) = forms f + 1
forms (dual_next I f) = forms f + 1
forms (eventually I f) = forms f + 1
forms (always I f) = forms f + 1
forms (until I f g) = forms f + forms g + 1
forms (release I f g) = forms f + forms g + 1

module _ {G : Type 0} (S : Ops G) (w : Word G) where
  -- f one event on, if there is one and the time to it lies in the interval; otherwise d
  abbrev pub stepped : G → Interval → (ℕ → G) → ℕ → G
  stepped d I f i = cond (nat_lt i w.count && inside I (elapsed w i (suc i))) (f (suc i)) d

  -- the join, over each event j from i on whose time since i lies in the interval, of the meet of g at j and f at each k with i ≤ k < j
  abbrev pub until_grade : Interval → (ℕ → G) → (ℕ → G) → ℕ → G
  until_grade I f g i =
      joins S (λ j. cond (inside I (elapsed w i j)) (S.meet (g j) (meets S f i (j - i))) S.low) i (suc w.count - i)

  -- the same with join and meet exchanged
  abbrev pub release_grade : Interval → (ℕ → G) → (ℕ → G) → ℕ → G
  release_grade I f g i =
      meets S (λ j. cond (inside I (elapsed w i j)) (S.join (g j) (joins S f i (j - i))) S.high) i (suc w.count - i)

  -- the pointwise grade of a form at event i
  unfoldable pub grade : Form → ℕ → G
  grade top i = S.high
  grade bottom i = S.low
  grade (fact p) i = w.fact p i
  grade (opposite f) i = S.opposite (grade f i)
  grade (both f g) i = S.meet (grade f i) (grade g i)
  grade (either f g) i = S.join (grade f i) (grade g i)
  grade (implies f g) i = S.join (S.opposite (grade f i)) (grade g i)
  grade (next I f) i = stepped S.low I (grade f) i
  grade (dual_next I f) i = stepped S.high I (grade f) i
  grade (eventually I f) i = until_grade I (λ _. S.high) (grade f) i
  grade (always I f) i = release_grade I (λ _. S.low) (grade f) i
  grade (until I f g) i = until_grade I (grade f) (grade g) i
  grade (release I f g) i = release_grade I (grade f) (grade g) i
