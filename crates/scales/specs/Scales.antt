-- A scale of grades, and its laws: a bounded distributive lattice with an opposite that turns joins into meets.
use Rattle.std.specs.Prelude.{◌≡◌, ℕ, zero, suc, ◌≤◌}

-- what a scale answers
pub record Ops (G : Type 0) : Type 0 where
  pub low : G
  pub high : G
  pub join : G → G → G
  pub meet : G → G → G
  pub opposite : G → G
  -- the grade of a reading
  pub grade : ℕ → G
  -- the number by which a grade is shown
  pub shown : G → ℕ

-- what holds of the answers
pub record Laws {G : Type 0} (S : Ops G) : Type 0 where
  pub join_assoc : (a b c : G) → S.join (S.join a b) c ≡ S.join a (S.join b c)
  pub meet_assoc : (a b c : G) → S.meet (S.meet a b) c ≡ S.meet a (S.meet b c)
  pub join_comm : (a b : G) → S.join a b ≡ S.join b a
  pub meet_comm : (a b : G) → S.meet a b ≡ S.meet b a
  pub join_absorbs : (a b : G) → S.join a (S.meet a b) ≡ a
  pub meet_absorbs : (a b : G) → S.meet a (S.join a b) ≡ a
  pub join_distributes : (a b c : G) → S.join a (S.meet b c) ≡ S.meet (S.join a b) (S.join a c)
  pub meet_distributes : (a b c : G) → S.meet a (S.join b c) ≡ S.join (S.meet a b) (S.meet a c)
  pub low_neutral : (a : G) → S.join S.low a ≡ a
  pub high_neutral : (a : G) → S.meet S.high a ≡ a
  pub apart : S.low ≡ S.high → ⊥
  pub opposite_twice : (a : G) → S.opposite (S.opposite a) ≡ a
  pub opposite_join : (a b : G) → S.opposite (S.join a b) ≡ S.meet (S.opposite a) (S.opposite b)
  pub shown_byte : (a : G) → S.shown a ≤ 255
  pub grade_shown : (a : G) → S.grade (S.shown a) ≡ a

-- g is at most h
abbrev pub AtMost : {G : Type 0} → Ops G → G → G → Type 0
AtMost S g h = S.join g h ≡ h

-- the scale upside down: whatever holds of joins on it holds of meets on the scale
abbrev pub dual : {G : Type 0} → Ops G → Ops G
dual S = record { low = S.high; high = S.low; join = S.meet; meet = S.join; opposite = S.opposite; grade = S.grade; shown = S.shown }

-- the join of f i, f (i + 1), … of k terms; of none, the lowest
abbrev pub joins : {G : Type 0} → Ops G → (ℕ → G) → ℕ → ℕ → G
joins S f i zero = S.low
joins S f i (suc k) = S.join (f i) (joins S f (suc i) k)

-- the meet of as many terms; of none, the highest
abbrev pub meets : {G : Type 0} → Ops G → (ℕ → G) → ℕ → ℕ → G
meets S = joins (dual S)
