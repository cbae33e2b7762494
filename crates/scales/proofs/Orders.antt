-- What follows from the laws of a scale. What holds of joins holds of meets at the dual scale, whose laws are `dual_laws`.
use mathlib.Core.Path.{◌≡◌, refl, sym, ◌∙◌, ap, ap₂}
use mathlib.Core.Bool.{Bool, true, false, cond, not}
use Prim.Native.Nat.{ℕ, zero, suc, ◌+◌, ◌≤◌, ◌<◌}
use native.Mathlib.Omega.{arith}
use Rattle.scales.specs.Scales.{Ops, Laws, AtMost, joins, meets, dual}
use Rattle.scales.specs.Lattices.{Lattice}

pub cond-not : {G : Type 0} (b : Bool) (x y : G) → cond (not b) x y ≡ cond b y x
cond-not true x y = refl
cond-not false x y = refl

pub opposite_cond : {G : Type 0} (S : Ops G) (b : Bool) (x y : G) → S.opposite (cond b x y) ≡ cond b (S.opposite x) (S.opposite y)
opposite_cond S true x y = refl
opposite_cond S false x y = refl

module _ {G : Type 0} (S : Ops G) (L : Laws S) where
  pub low_right : (a : G) → S.join a S.low ≡ a
  low_right a = L.join_comm a S.low ∙ L.low_neutral a

  pub high_right : (a : G) → S.meet a S.high ≡ a
  high_right a = L.meet_comm a S.high ∙ L.high_neutral a

  pub join_twice : (a : G) → S.join a a ≡ a
  join_twice a = cc (L.meet_absorbs a a, L.join_absorbs a (S.join a a))

  pub meet_twice : (a : G) → S.meet a a ≡ a
  meet_twice a = cc (L.join_absorbs a a, L.meet_absorbs a (S.meet a a))

  pub high_join : (a : G) → S.join S.high a ≡ S.high
  high_join a = cc (L.join_absorbs S.high a, L.high_neutral a)

  pub low_meet : (a : G) → S.meet S.low a ≡ S.low
  low_meet a = cc (L.meet_absorbs S.low a, L.low_neutral a)

  pub join_high : (a : G) → S.join a S.high ≡ S.high
  join_high a = L.join_comm a S.high ∙ high_join a

  pub meet_low : (a : G) → S.meet a S.low ≡ S.low
  meet_low a = L.meet_comm a S.low ∙ low_meet a

  pub opposite_meet : (a b : G) → S.opposite (S.meet a b) ≡ S.join (S.opposite a) (S.opposite b)
  opposite_meet a b =
      cc (L.opposite_twice a, L.opposite_twice b, L.opposite_join (S.opposite a) (S.opposite b), L.opposite_twice (S.join (S.opposite a) (S.opposite b)))

  pub opposite_low : S.opposite S.low ≡ S.high
  opposite_low =
      let h = S.opposite S.high in
      cc (L.opposite_join S.low h, L.low_neutral h, L.opposite_twice S.high, high_right (S.opposite S.low))

  pub opposite_high : S.opposite S.high ≡ S.low
  opposite_high = cc (opposite_low, L.opposite_twice S.low)

  pub dual_laws : Laws (dual S)
  dual_laws =
      record {
        join_assoc = L.meet_assoc;
        meet_assoc = L.join_assoc;
        join_comm = L.meet_comm;
        meet_comm = L.join_comm;
        join_absorbs = L.meet_absorbs;
        meet_absorbs = L.join_absorbs;
        join_distributes = L.meet_distributes;
        meet_distributes = L.join_distributes;
        low_neutral = L.high_neutral;
        high_neutral = L.low_neutral;
        apart = λ e. L.apart (sym e);
        opposite_twice = L.opposite_twice;
        opposite_join = opposite_meet;
        shown_byte = L.shown_byte;
        grade_shown = L.grade_shown;
      }

  pub opposite_joins : (f : ℕ → G) (i k : ℕ) → S.opposite (joins S f i k) ≡ meets S (λ j. S.opposite (f j)) i k
  opposite_joins f i zero = opposite_low
  opposite_joins f i (suc k) = cc (L.opposite_join (f i) (joins S f (suc i) k), opposite_joins f (suc i) k)

  pub meet_joins : (a : G) (f : ℕ → G) (i k : ℕ) → S.meet a (joins S f i k) ≡ joins S (λ j. S.meet a (f j)) i k
  meet_joins a f i zero = meet_low a
  meet_joins a f i (suc k) = L.meet_distributes a (f i) (joins S f (suc i) k) ∙ ap (S.join (S.meet a (f i))) (meet_joins a f (suc i) k)

  -- "at most" is an order, and join and meet keep it
  pub at_most_transitive : (a b c : G) → AtMost S a b → AtMost S b c → AtMost S a c
  at_most_transitive a b c p q = cc (L.join_assoc a b c)

  pub at_most_antisym : (a b : G) → AtMost S a b → AtMost S b a → a ≡ b
  at_most_antisym a b p q = cc (L.join_comm a b)

  pub at_most_join : (a b c d : G) → AtMost S a b → AtMost S c d → AtMost S (S.join a c) (S.join b d)
  at_most_join a b c d p q =
      cc (L.join_assoc a c (S.join b d), L.join_assoc c b d, L.join_comm c b, L.join_assoc b c d, L.join_assoc a b d)

  pub at_most_meet : (a b c d : G) → AtMost S a b → AtMost S c d → AtMost S (S.meet a c) (S.meet b d)
  at_most_meet a b c d p q =
      let x = S.meet a c in
      cc (
        L.join_distributes x b d,
        L.join_comm x b,
        L.join_distributes b a c,
        L.join_comm b a,
        L.meet_absorbs b c,
        L.join_comm x d,
        L.join_distributes d a c,
        L.join_comm d c,
        L.meet_comm (S.join d a) d,
        L.meet_absorbs d a,
      )

  -- a is at most b exactly if their meet is a, so the opposites stand the other way round
  pub at_most_opposite : (a b : G) → AtMost S a b → AtMost S (S.opposite b) (S.opposite a)
  at_most_opposite a b p =
      let x = S.opposite a in
      let y = S.opposite b in
      cc (L.opposite_join a b, L.meet_comm x y, L.join_absorbs x y, L.join_comm x y, L.join_comm y x)

  pub lattice : Lattice S
  lattice =
      record {
        join_twice = join_twice;
        meet_twice = meet_twice;
        high_join = high_join;
        low_meet = low_meet;
        opposite_meet = opposite_meet;
        opposite_low = opposite_low;
        opposite_high = opposite_high;
        low_least = L.low_neutral;
        high_greatest = join_high;
        reflexive = join_twice;
        transitive = at_most_transitive;
        antisymmetric = at_most_antisym;
        join_monotone = at_most_join;
        meet_monotone = at_most_meet;
        opposite_antitone = at_most_opposite;
      }

-- terms that agree have the same joins
pub joins_same : {G : Type 0} (S : Ops G) (f g : ℕ → G) (i k : ℕ) → ((j : ℕ) → i ≤ j → j < i + k → f j ≡ g j) → joins S f i k ≡ joins S g i k
joins_same S f g i zero h = refl
joins_same S f g i (suc k) h =
    ap₂ S.join (h i (omega arith) (omega arith)) (joins_same S f g (suc i) k (λ j l u. h j (omega arith) (omega arith)))

pub joins_low : {G : Type 0} (S : Ops G) (L : Laws S) (i k : ℕ) → joins S (λ _. S.low) i k ≡ S.low
joins_low S L i zero = refl
joins_low S L i (suc k) = L.low_neutral _ ∙ joins_low S L (suc i) k
