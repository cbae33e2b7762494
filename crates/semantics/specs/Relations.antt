-- Relations between the grades of two scales that values carry over from facts and boundaries.
use Rattle.std.specs.Prelude.{◌≡◌, ℕ, ◌≤◌}
use Rattle.scales.specs.Scales.{Ops}
use Rattle.semantics.specs.Words.{Word, elapsed}

-- R holds of both lowest and of both highest grades, and join and meet keep it
pub record Respects {G H : Type 0} (R : G → H → Type 0) (S : Ops G) (T : Ops H) : Type 0 where
  pub low : R S.low T.low
  pub high : R S.high T.high
  pub join : (a b : G) (c d : H) → R a c → R b d → R (S.join a b) (T.join c d)
  pub meet : (a b : G) (c d : H) → R a c → R b d → R (S.meet a b) (T.meet c d)

-- as far as w goes, v has the same elapsed times, and R holds of their facts and opposed facts
pub record Alike {G H : Type 0} (R : G → H → Type 0) (S : Ops G) (T : Ops H) (w : Word G) (v : Word H) : Type 0 where
  pub shorter : w.count ≤ v.count
  pub times : (s i : ℕ) → 1 ≤ s → s ≤ i → i ≤ w.count → elapsed w s i ≡ elapsed v s i
  pub facts : (p i : ℕ) → 1 ≤ i → i ≤ w.count → R (w.fact p i) (v.fact p i)
  pub opposed : (p i : ℕ) → 1 ≤ i → i ≤ w.count → R (S.opposite (w.fact p i)) (T.opposite (v.fact p i))

-- a relation given by an equation between two functions of both grades, since a contract cannot range over all relations:
-- "at most" is that of `join a b` and `b`, the graph of a map that of `map a` and `b`, and a decidable relation that of its test and the highest
abbrev pub Equated : {G H : Type 0} → (G → H → H) → (G → H → H) → G → H → Type 0
Equated left right a b = left a b ≡ right a b
