-- Values over two scales and two words, related step by step; from it bounds on what is still to come.
use Rattle.std.proofs.Common.{◌≡◌, ℕ, zero, suc, ◌+◌, ◌-◌, ◌≤◌, Bool, true, false, not, List, get_or, sym, refl, ap, ap₂, arith}
use Rattle.scales.specs.Scales.{Ops, Laws, AtMost}
use Rattle.scales.proofs.Orders.{join_twice, join_high, at_most_join, at_most_meet}
use Rattle.semantics.specs.Words.{Word}
use Rattle.semantics.specs.Forms.{inside, within_upper}
use Rattle.semantics.specs.Automata.{
  Clause,
  accept,
  reject,
  holds,
  fails,
  and,
  or,
  in_interval,
  out_of_interval,
  at_most,
  above,
  reset,
  jump,
  Location,
  nowhere,
}
use Rattle.semantics.specs.Values.{test, clause_value, value_before, value}
use Rattle.semantics.specs.Relations.{Respects, Alike}

module _ {G H : Type 0} (R : G → H → Type 0) (S : Ops G) (T : Ops H) (respects : Respects R S T)
    (w : Word G) (v : Word H) (alike : Alike R S T w v) where
  tests : (a b : Bool) → a ≡ b → R (test S a) (test T b)
  tests a b e = rw e (both b)
    where
      both : (b : Bool) → R (test S b) (test T b)
      both true = respects.high
      both false = respects.low

  clause_related : (x : ℕ → ℕ → G) (y : ℕ → ℕ → H) (i : ℕ) → i ≤ w.count →
      ((l s : ℕ) → 1 ≤ s → s ≤ i → R (x l s) (y l s)) →
      (c : Clause) (s : ℕ) → 1 ≤ s → s ≤ i → R (clause_value S w x s i c) (clause_value T v y s i c)
  unfolding clause_value
  clause_related x y i u r accept s p q = respects.high
  clause_related x y i u r reject s p q = respects.low
  clause_related x y i u r (holds a) s p q = alike.facts a i (omega arith) u
  clause_related x y i u r (fails a) s p q = alike.opposed a i (omega arith) u
  clause_related x y i u r (and c d) s p q = respects.meet _ _ _ _ (clause_related x y i u r c s p q) (clause_related x y i u r d s p q)
  clause_related x y i u r (or c d) s p q = respects.join _ _ _ _ (clause_related x y i u r c s p q) (clause_related x y i u r d s p q)
  clause_related x y i u r (in_interval I) s p q = tests _ _ (ap (inside I) (alike.times s i p q u))
  clause_related x y i u r (out_of_interval I) s p q = tests _ _ (ap (λ t. not (inside I t)) (alike.times s i p q u))
  clause_related x y i u r (at_most b) s p q = tests _ _ (ap (within_upper b) (alike.times s i p q u))
  clause_related x y i u r (above b) s p q = tests _ _ (ap (λ t. not (within_upper b t)) (alike.times s i p q u))
  clause_related x y i u r (reset c) s p q = clause_related x y i u r c i (omega arith) (omega arith)
  clause_related x y i u r (jump l) s p q = r l s p q

  module _ (A : List Location) (after : ℕ → ℕ → G) (later : ℕ → ℕ → H)
      (bound : (l s : ℕ) → 1 ≤ s → s ≤ w.count → R (after l s) (value T v A later l s (suc w.count))) where
    before_related : (k e i : ℕ) → i + k ≡ suc w.count → i + e ≡ suc v.count → (l s : ℕ) → 1 ≤ s → s ≤ i → s ≤ w.count →
        R (value_before S w A after k l s) (value_before T v A later e l s)
    unfolding value_before
    before_related zero e i a b l s p q u =
        let n : e ≡ suc v.count - suc w.count = omega arith in
        rw n (bound l s p u)
    before_related (suc k) zero i a b l s p q u = let o = alike.shorter in absurd (omega arith)
    before_related (suc k) (suc e) i a b l s p q u =
        let m : w.count - k ≡ i = omega arith in
        let n : v.count - e ≡ i = omega arith in
        rw (m, n) (clause_related _ _ i (omega arith)
        (λ l s p q. before_related k e (suc i) (omega arith) (omega arith) l s p (omega arith) (omega arith)) (get_or A l nowhere).root s p q)

    -- as what comes after w is related to what v comes to there, so are the values before
    pub values_related : (l s i : ℕ) → 1 ≤ s → s ≤ i → i ≤ w.count → R (value S w A after l s i) (value T v A later l s i)
    values_related l s i p q u = let o = alike.shorter in before_related _ _ i (omega arith) (omega arith) l s p q (omega arith)

-- over words of one length
pub values_related_throughout : {G H : Type 0} (R : G → H → Type 0) (S : Ops G) (T : Ops H) → Respects R S T →
    (w : Word G) (v : Word H) → Alike R S T w v → w.count ≡ v.count →
    (A : List Location) (after : ℕ → ℕ → G) (later : ℕ → ℕ → H) →
    ((l s : ℕ) → 1 ≤ s → s ≤ w.count → R (after l s) (later l s)) →
    (l s i : ℕ) → 1 ≤ s → s ≤ i → i ≤ w.count → R (value S w A after l s i) (value T v A later l s i)
unfolding value_before
values_related_throughout R S T respects w v alike same A after later bound =
    let n : suc v.count - suc w.count ≡ 0 = omega arith in
    values_related R S T respects w v alike A after later (λ l s p q. rw n (bound l s p q))

-- v goes on from w
pub record Extends {G : Type 0} (w v : Word G) : Type 0 where
  pub shorter : w.count ≤ v.count
  pub times : (i : ℕ) → 1 ≤ i → i ≤ w.count → w.time i ≡ v.time i
  pub facts : (p i : ℕ) → 1 ≤ i → i ≤ w.count → w.fact p i ≡ v.fact p i

pub extends_itself : {G : Type 0} (w : Word G) → Extends w w
extends_itself w = record { shorter = omega arith; times = λ i p q. refl; facts = λ x i p q. refl }

-- what goes on from w is like w under whatever holds of equal grades
continuing : {G : Type 0} (R : G → G → Type 0) → ((a : G) → R a a) → (S : Ops G) (w v : Word G) → Extends w v → Alike R S S w v
continuing R same S w v c =
    record {
      shorter = c.shorter;
      times = λ s i p q u. let a = c.times i (omega arith) u in let b = c.times s p (omega arith) in rw (a, b);
      facts = λ x i p q. rw (c.facts x i p q) (same _);
      opposed = λ x i p q. rw (c.facts x i p q) (same _);
    }

pub equal_respects : {G : Type 0} (S : Ops G) → Respects ◌≡◌ S S
equal_respects S = record { low = refl; high = refl; join = λ a b c d p q. ap₂ S.join p q; meet = λ a b c d p q. ap₂ S.meet p q }

module _ {G : Type 0} (S : Ops G) where
  -- values before a cut are the values of what was cut off, given what is to come
  pub values_cut : (w v : Word G) → Extends w v → (A : List Location) (after : ℕ → ℕ → G) (l s i : ℕ) → 1 ≤ s → s ≤ i → i ≤ w.count →
      value S v A after l s i ≡ value S w A (λ m t. value S v A after m t (suc w.count)) l s i
  values_cut w v c A after l s i p q u =
      sym (values_related ◌≡◌ S S (equal_respects S) w v (continuing ◌≡◌ (λ _. refl) S w v c) A _ after (λ _ _ _ _. refl) l s i p q u)

  module _ (L : Laws S) where
    pub at_most_respects : Respects (AtMost S) S S
    at_most_respects =
        record {
          low = join_twice S L _;
          high = join_twice S L _;
          join = λ a b c d. at_most_join S L a c b d;
          meet = λ a b c d. at_most_meet S L a c b d;
        }

    pub at_least_respects : Respects (λ a b. AtMost S b a) S S
    at_least_respects =
        record {
          low = join_twice S L _;
          high = join_twice S L _;
          join = λ a b c d. at_most_join S L c a d b;
          meet = λ a b c d. at_most_meet S L c a d b;
        }

    pub values_monotone : (w : Word G) (A : List Location) (after later : ℕ → ℕ → G) →
        ((l s : ℕ) → 1 ≤ s → s ≤ w.count → AtMost S (after l s) (later l s)) →
        (l s i : ℕ) → 1 ≤ s → s ≤ i → i ≤ w.count → AtMost S (value S w A after l s i) (value S w A later l s i)
    values_monotone w =
        values_related_throughout (AtMost S) S S at_most_respects w w (continuing (AtMost S) (join_twice S L) S w w (extends_itself w)) refl

    -- however the word goes on, the value lies between those with the lowest and with the highest to come
    pub values_floor : (w v : Word G) → Extends w v → (A : List Location) (after : ℕ → ℕ → G) →
        (l s i : ℕ) → 1 ≤ s → s ≤ i → i ≤ w.count → AtMost S (value S w A (λ _ _. S.low) l s i) (value S v A after l s i)
    values_floor w v c A after =
        values_related (AtMost S) S S at_most_respects w v (continuing (AtMost S) (join_twice S L) S w v c)
        A _ after (λ _ _ _ _. L.low_neutral _)

    pub values_ceiling : (w v : Word G) → Extends w v → (A : List Location) (after : ℕ → ℕ → G) →
        (l s i : ℕ) → 1 ≤ s → s ≤ i → i ≤ w.count → AtMost S (value S v A after l s i) (value S w A (λ _ _. S.high) l s i)
    values_ceiling w v c A after =
        values_related (λ a b. AtMost S b a) S S at_least_respects w v (continuing (λ a b. AtMost S b a) (join_twice S L) S w v c)
        A _ after (λ _ _ _ _. join_high S L _)
