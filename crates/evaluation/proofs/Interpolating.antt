-- Between two tests of its clock, a clause with its own start is given by its values at the lowest and the highest grade.
use Rattle.std.proofs.Common.{◌≡◌, ℕ, ◌-◌, ◌≤◌, Bool, true, cond, not, ◌&&◌, ltb, leb, sym, refl, ap, ◌∙◌, ap₂, inl, inr, arith}
use Rattle.std.proofs.lemmas.Bool.{cases_Bool, ltb-true, ltb-false, leb-true, le-leb, lt-leb, and_left}
use Rattle.std.proofs.lemmas.Bool.Decides.{nat_tests}
use Rattle.scales.specs.Scales.{Ops, Laws, AtMost}
use Rattle.scales.proofs.Orders.{low_right, high_right, join_twice, at_most_join, at_most_meet}
use Rattle.semantics.specs.Words.{Word, elapsed}
use Rattle.semantics.specs.Forms.{Interval, Upper, none, upto, inside, within_upper}
use Rattle.semantics.specs.Automata.{Clause, accept, reject, holds, fails, and, or, in_interval, out_of_interval, at_most, above, reset, jump}
use Rattle.semantics.specs.Values.{test, clause_value}
use Rattle.evaluation.specs.Deadlines.{sooner}
use Rattle.evaluation.specs.Segments.{own_value, end_from, window_from, horizon}
use Rattle.evaluation.proofs.Soundness.{Homes}

-- the clause's value, where it jumps to l alone
module _ {G : Type 0} (S : Ops G) (w : Word G) (on : ℕ → ℕ → G) (l s i : ℕ) where
  pub owned : (c : Clause) → Homes l c → clause_value S w on s i c ≡ own_value S (clause_value S w on i i) (elapsed w s i) (on l s) c
  unfolding clause_value own_value
  owned accept h = refl
  owned reject h = refl
  owned (holds p) h = refl
  owned (fails p) h = refl
  owned (and c d) h = ap₂ S.meet (owned c h.0) (owned d h.1)
  owned (or c d) h = ap₂ S.join (owned c h.0) (owned d h.1)
  owned (in_interval I) h = refl
  owned (out_of_interval I) h = refl
  owned (at_most u) h = refl
  owned (above u) h = refl
  owned (reset c) h = refl
  owned (jump m) h = ap (λ k. on k s) h

-- y is not behind a horizon
abbrev pub Until : Upper → ℕ → Type 0
Until u y = within_upper u y ≡ true

end_same : (u : Upper) (x y : ℕ) → x ≤ y → Until (end_from x u) y → within_upper u x ≡ within_upper u y
end_same none x y h e = refl
end_same (upto u) x y h e = grind (arith, nat_tests)

window_same : (I : Interval) (x y : ℕ) → x ≤ y → Until (window_from x I) y → inside I x ≡ inside I y
window_same I x y h e =
    let rest : Bool → Bool = λ b. within_upper (cond b (upto (I.lower - 1)) (end_from x I.upper)) y in
    elim (cases_Bool (ltb x I.lower)) [
      | inl below ↦
          let less = ltb-true x I.lower below in
          let last = leb-true y (I.lower - 1) (ap rest (sym below) ∙ e) in
          and_left (leb I.lower x) (within_upper I.upper x) (lt-leb I.lower x less)
          ∙ sym (and_left (leb I.lower y) (within_upper I.upper y) (lt-leb I.lower y (omega arith)))
      | inr from ↦
          let least = ltb-false x I.lower from in
          ap₂ ◌&&◌ (le-leb I.lower x least ∙ sym (le-leb I.lower y (omega arith))) (end_same I.upper x y h (ap rest (sym from) ∙ e))
    ]

sooner_until : (a b : Upper) (y : ℕ) → Until (sooner a b) y → Until a y × Until b y
sooner_until none b y e = (refl, e)
sooner_until (upto u) none y e = (e, refl)
sooner_until (upto u) (upto v) y e = (grind (arith, nat_tests), grind (arith, nat_tests))

-- no clock reading is behind its own horizon
until_sooner : (a b : Upper) (y : ℕ) → Until a y → Until b y → Until (sooner a b) y
until_sooner none b y p q = q
until_sooner (upto u) none y p q = p
until_sooner (upto u) (upto v) y p q = grind (arith, nat_tests)

end_here : (u : Upper) (x : ℕ) → Until (end_from x u) x
end_here none x = refl
end_here (upto u) x = grind (arith, nat_tests)

window_here : (I : Interval) (x : ℕ) → Until (window_from x I) x
window_here I x =
    elim (cases_Bool (ltb x I.lower)) [
      | inl below ↦
          let less = ltb-true x I.lower below in
          ap (λ b. within_upper (cond b (upto (I.lower - 1)) (end_from x I.upper)) x) below ∙ le-leb x (I.lower - 1) (omega arith)
      | inr from ↦ ap (λ b. within_upper (cond b (upto (I.lower - 1)) (end_from x I.upper)) x) from ∙ end_here I.upper x
    ]

pub horizon_here : (c : Clause) (x : ℕ) → Until (horizon x c) x
unfolding horizon
horizon_here accept x = refl
horizon_here reject x = refl
horizon_here (holds p) x = refl
horizon_here (fails p) x = refl
horizon_here (and c d) x = until_sooner (horizon x c) (horizon x d) x (horizon_here c x) (horizon_here d x)
horizon_here (or c d) x = until_sooner (horizon x c) (horizon x d) x (horizon_here c x) (horizon_here d x)
horizon_here (in_interval I) x = window_here I x
horizon_here (out_of_interval I) x = window_here I x
horizon_here (at_most u) x = end_here u x
horizon_here (above u) x = end_here u x
horizon_here (reset c) x = refl
horizon_here (jump l) x = refl

module _ {G : Type 0} (S : Ops G) (fresh : Clause → G) (x y : ℕ) (next : G) (order : x ≤ y) where
  pub segment_same : (c : Clause) → Until (horizon x c) y → own_value S fresh x next c ≡ own_value S fresh y next c
  unfolding own_value horizon
  segment_same accept h = refl
  segment_same reject h = refl
  segment_same (holds p) h = refl
  segment_same (fails p) h = refl
  segment_same (and c d) h =
      let q = sooner_until (horizon x c) (horizon x d) y h in ap₂ S.meet (segment_same c q.0) (segment_same d q.1)
  segment_same (or c d) h =
      let q = sooner_until (horizon x c) (horizon x d) y h in ap₂ S.join (segment_same c q.0) (segment_same d q.1)
  segment_same (in_interval I) h = ap (test S) (window_same I x y order h)
  segment_same (out_of_interval I) h = ap (λ b. test S (not b)) (window_same I x y order h)
  segment_same (at_most u) h = ap (test S) (end_same u x y order h)
  segment_same (above u) h = ap (λ b. test S (not b)) (end_same u x y order h)
  segment_same (reset c) h = refl
  segment_same (jump l) h = refl

module _ {G : Type 0} (S : Ops G) (laws : Laws S) where
  -- the two ways to cut x to what lies between b and a
  modular : (x a b : G) → AtMost S b a → S.join (S.meet x a) b ≡ S.meet (S.join x b) a
  modular x a b h =
      laws.join_comm (S.meet x a) b ∙ laws.join_distributes b x a
      ∙ ap₂ S.meet (laws.join_comm b x) h

  constant : (x k : G) → k ≡ S.join (S.meet x k) k
  constant x k = sym (laws.join_comm (S.meet x k) k ∙ ap (S.join k) (laws.meet_comm x k) ∙ laws.join_absorbs k x)

  module _ (fresh : Clause → G) (clock : ℕ) (x : G) where
    abbrev at : G → Clause → G
    at = own_value S fresh clock

    -- values grow with the grade
    rising : (c : Clause) → AtMost S (at S.low c) (at S.high c)
    unfolding own_value
    rising accept = join_twice S laws _
    rising reject = join_twice S laws _
    rising (holds p) = join_twice S laws _
    rising (fails p) = join_twice S laws _
    rising (and c d) = at_most_meet S laws _ _ _ _ (rising c) (rising d)
    rising (or c d) = at_most_join S laws _ _ _ _ (rising c) (rising d)
    rising (in_interval I) = join_twice S laws _
    rising (out_of_interval I) = join_twice S laws _
    rising (at_most u) = join_twice S laws _
    rising (above u) = join_twice S laws _
    rising (reset c) = join_twice S laws _
    rising (jump l) = laws.low_neutral S.high

    pub interpolated : (c : Clause) → at x c ≡ S.join (S.meet x (at S.high c)) (at S.low c)
    unfolding own_value
    interpolated accept = constant x _
    interpolated reject = constant x _
    interpolated (holds p) = constant x _
    interpolated (fails p) = constant x _
    interpolated (and c d) =
        let a = at S.high c in
        let b = at S.low c in
        let a' = at S.high d in
        let b' = at S.low d in
        ap₂ S.meet (interpolated c ∙ modular x a b (rising c)) (interpolated d ∙ modular x a' b' (rising d))
        ∙ exchange (S.join x b) a (S.join x b') a'
        ∙ ap (λ y. S.meet y (S.meet a a')) (sym (laws.join_distributes x b b'))
        ∙ sym (modular x (S.meet a a') (S.meet b b') (at_most_meet S laws _ _ _ _ (rising c) (rising d)))
      where
        exchange : (p q r t : G) → S.meet (S.meet p q) (S.meet r t) ≡ S.meet (S.meet p r) (S.meet q t)
        exchange p q r t =
            laws.meet_assoc p q (S.meet r t)
            ∙ ap (S.meet p) (sym (laws.meet_assoc q r t) ∙ ap (λ y. S.meet y t) (laws.meet_comm q r) ∙ laws.meet_assoc r q t)
            ∙ sym (laws.meet_assoc p r (S.meet q t))
    interpolated (or c d) =
        let a = at S.high c in
        let b = at S.low c in
        let a' = at S.high d in
        let b' = at S.low d in
        ap₂ S.join (interpolated c) (interpolated d)
        ∙ exchange (S.meet x a) b (S.meet x a') b'
        ∙ ap (λ y. S.join y (S.join b b')) (sym (laws.meet_distributes x a a'))
      where
        exchange : (p q r t : G) → S.join (S.join p q) (S.join r t) ≡ S.join (S.join p r) (S.join q t)
        exchange p q r t =
            laws.join_assoc p q (S.join r t)
            ∙ ap (S.join p) (sym (laws.join_assoc q r t) ∙ ap (λ y. S.join y t) (laws.join_comm q r) ∙ laws.join_assoc r q t)
            ∙ sym (laws.join_assoc p r (S.join q t))
    interpolated (in_interval I) = constant x _
    interpolated (out_of_interval I) = constant x _
    interpolated (at_most u) = constant x _
    interpolated (above u) = constant x _
    interpolated (reset c) = constant x _
    interpolated (jump l) = sym (low_right S laws (S.meet x S.high) ∙ high_right S laws x)
