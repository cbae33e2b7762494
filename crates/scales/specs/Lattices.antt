-- What follows from the laws of a scale, as one record that a contract can hold.
use Rattle.std.specs.Prelude.{◌≡◌}
use Rattle.scales.specs.Scales.{Ops, AtMost}

pub record Lattice {G : Type 0} (S : Ops G) : Type 0 where
  pub join_twice : (a : G) → S.join a a ≡ a
  pub meet_twice : (a : G) → S.meet a a ≡ a
  pub high_join : (a : G) → S.join S.high a ≡ S.high
  pub low_meet : (a : G) → S.meet S.low a ≡ S.low
  pub opposite_meet : (a b : G) → S.opposite (S.meet a b) ≡ S.join (S.opposite a) (S.opposite b)
  pub opposite_low : S.opposite S.low ≡ S.high
  pub opposite_high : S.opposite S.high ≡ S.low
  -- "at most" is an order, from the lowest to the highest
  pub low_least : (a : G) → AtMost S S.low a
  pub high_greatest : (a : G) → AtMost S a S.high
  pub reflexive : (a : G) → AtMost S a a
  pub transitive : (a b c : G) → AtMost S a b → AtMost S b c → AtMost S a c
  pub antisymmetric : (a b : G) → AtMost S a b → AtMost S b a → a ≡ b
  -- join and meet keep it, and the opposite turns it round
  pub join_monotone : (a b c d : G) → AtMost S a b → AtMost S c d → AtMost S (S.join a c) (S.join b d)
  pub meet_monotone : (a b c d : G) → AtMost S a b → AtMost S c d → AtMost S (S.meet a c) (S.meet b d)
  pub opposite_antitone : (a b : G) → AtMost S a b → AtMost S (S.opposite b) (S.opposite a)
