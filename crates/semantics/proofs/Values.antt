-- The value of the automaton of a form at an event is the form's grade there.
use Rattle.std.proofs.Common.{◌≡◌, ℕ, suc, ◌+◌, ◌-◌, ◌≤◌, Bool, true, false, List, [], ◌∷◌, length, get_or, sym, refl, ◌∙◌, ap₂, inl, inr, arith}
use Rattle.std.proofs.lemmas.List.{get_or_past}
use Rattle.std.proofs.lemmas.Bool.{cases_lt}
use Rattle.scales.specs.Scales.{Ops, Laws, dual}
use Rattle.scales.proofs.Orders.{cond-not, dual_laws}
use Rattle.semantics.specs.Words.{Word, elapsed}
use Rattle.semantics.specs.Forms.{Form, grade, Interval, inside, stepped}
use Rattle.semantics.specs.Normals.{
  Normal,
  top,
  bottom,
  fact,
  opposed,
  both,
  either,
  next,
  dual_next,
  until,
  release,
  normal,
  temporal_forms,
  temporals,
  waits,
  normal_grade,
}
use Rattle.semantics.specs.Automata.{Clause, until_clause, release_clause, next_clause, dual_next_clause, Location, transition, locations_of, automaton, nowhere}
use Rattle.semantics.specs.Values.{test, clause_value, value_before, run_boundary, run_value}
use Rattle.semantics.proofs.Indexed.{All, all_append, all_at}
use Rattle.semantics.proofs.Normals.{normal_is}
use Rattle.semantics.proofs.Steps.{Rising, until_from, until_steps, next_steps}
use Rattle.semantics.proofs.Places.{Stands, Placed, placed_split, automaton_placed, length-temporals}

module _ {G : Type 0} (S : Ops G) (L : Laws S) (w : Word G) (rise : Rising w) (A : List Location) where
  abbrev V : ℕ → ℕ → ℕ → G
  V = value_before S w A (run_boundary S A)

  -- at each event, with its clock just started, c has the value F
  abbrev Has : Clause → (ℕ → G) → Type 0
  Has c F = (m i : ℕ) → 1 ≤ i → i + m ≡ w.count → clause_value S w (V m) i i c ≡ F i

  last : (l s : ℕ) {c : Clause} {b : Bool} → get_or A l nowhere ≡ record { root = c; final = b } → V 0 l s ≡ test S b
  unfolding value_before
  last l s e = rw e

  step : (l s m i : ℕ) {c : Clause} {b : Bool} → get_or A l nowhere ≡ record { root = c; final = b } → i + m ≡ w.count →
      V (suc m) l s ≡ clause_value S w (V m) s i c
  unfolding value_before
  step l s m i e q = let n : w.count - m ≡ i = omega arith in rw (e, n)

  until_value : (l : ℕ) (I : Interval) (c d : Clause) (F H : ℕ → G) →
      get_or A l nowhere ≡ record { root = until_clause I l c d; final = false } → Has c F → Has d H →
      (s k i : ℕ) → 1 ≤ i → i + k ≡ suc w.count → V k l s ≡ until_from S w I F H s i k
  unfolding clause_value
  until_value l I c d F H e hc hd s =
      until_steps S L w rise I F H s (λ k. V k l s) (last l s e) (λ i m p q. step l s m i e q ∙ rw (hc m i p q, hd m i p q))

  release_value : (l : ℕ) (I : Interval) (c d : Clause) (F H : ℕ → G) →
      get_or A l nowhere ≡ record { root = release_clause I l c d; final = true } → Has c F → Has d H →
      (s k i : ℕ) → 1 ≤ i → i + k ≡ suc w.count → V k l s ≡ until_from (dual S) w I F H s i k
  unfolding clause_value
  release_value l I c d F H e hc hd s =
      until_steps (dual S) (dual_laws S L) w rise I F H s (λ k. V k l s) (last l s e)
      (λ i m p q. step l s m i e q ∙ simp cond-not (rw (hc m i p q, hd m i p q)))

  next_value : (l : ℕ) (I : Interval) (c : Clause) (F : ℕ → G) →
      get_or A l nowhere ≡ record { root = next_clause I c; final = false } → Has c F →
      (m i : ℕ) → i + m ≡ w.count → V m l i ≡ stepped S w S.low I F i
  unfolding clause_value
  next_value l I c F e hc m i =
      next_steps S L w I F i m (λ m. V m l i) (last l i e) (λ m q. step l i m (suc i) e q ∙ rw (hc m (suc i) (omega arith) q))

  dual_next_value : (l : ℕ) (I : Interval) (c : Clause) (F : ℕ → G) →
      get_or A l nowhere ≡ record { root = dual_next_clause I c; final = true } → Has c F →
      (m i : ℕ) → i + m ≡ w.count → V m l i ≡ stepped S w S.high I F i
  unfolding clause_value
  dual_next_value l I c F e hc m i =
      next_steps (dual S) (dual_laws S L) w I F i m (λ m. V m l i) (last l i e)
      (λ m q. step l i m (suc i) e q ∙ ap₂ S.join (cond-not (inside I (elapsed w i (suc i))) S.high S.low) (hc m (suc i) (omega arith) q))

  -- the location of a form that waits, its clock just started, has the form's grade
  abbrev Own : ℕ → Normal → Type 0
  Own l f = (m i : ℕ) → 1 ≤ i → i + m ≡ w.count → V (suc m) l i ≡ normal_grade S w f i

  until_own : (I : Interval) (f g : Normal) (k : ℕ) →
      Has (transition k f) (normal_grade S w f) → Has (transition (k + temporals f) g) (normal_grade S w g) →
      Stands A (k + temporals f + temporals g) (record { root = transition k (until I f g); final = false }) →
      Own (k + temporals f + temporals g + 1) (until I f g)
  unfolding transition normal_grade
  until_own I f g k hf hg e m i p q =
      let n : suc w.count - i ≡ suc m = omega arith in
      rw n (until_value _ I _ _ _ _ e hf hg i (suc m) i p (omega arith))

  release_own : (I : Interval) (f g : Normal) (k : ℕ) →
      Has (transition k f) (normal_grade S w f) → Has (transition (k + temporals f) g) (normal_grade S w g) →
      Stands A (k + temporals f + temporals g) (record { root = transition k (release I f g); final = true }) →
      Own (k + temporals f + temporals g + 1) (release I f g)
  unfolding transition normal_grade
  release_own I f g k hf hg e m i p q =
      let n : suc w.count - i ≡ suc m = omega arith in
      rw n (release_value _ I _ _ _ _ e hf hg i (suc m) i p (omega arith))

  transition_value : (f : Normal) (k : ℕ) → Placed A k f → Has (transition k f) (normal_grade S w f)
  unfolding locations_of transition clause_value normal_grade
  transition_value top k P m i p q = refl
  transition_value bottom k P m i p q = refl
  transition_value (fact x) k P m i p q = refl
  transition_value (opposed x) k P m i p q = refl
  transition_value (both f g) k P m i p q =
      let h = placed_split A k f _ P in
      ap₂ S.meet (transition_value f k h.0 m i p q) (transition_value g _ h.1 m i p q)
  transition_value (either f g) k P m i p q =
      let h = placed_split A k f _ P in
      ap₂ S.join (transition_value f k h.0 m i p q) (transition_value g _ h.1 m i p q)
  transition_value (next I f) k P m i p q =
      let h = placed_split A k f _ P in
      next_value _ I _ _ h.1.0 (transition_value f k h.0) m i q
  transition_value (dual_next I f) k P m i p q =
      let h = placed_split A k f _ P in
      dual_next_value _ I _ _ h.1.0 (transition_value f k h.0) m i q
  transition_value (until I f g) k P m i p q =
      let h = placed_split A k f _ P in
      let r = placed_split A _ g _ h.1 in
      sym (step _ i m i r.1.0 q) ∙
      until_own I f g k (transition_value f k h.0) (transition_value g _ r.0) r.1.0 m i p q
  transition_value (release I f g) k P m i p q =
      let h = placed_split A k f _ P in
      let r = placed_split A _ g _ h.1 in
      sym (step _ i m i r.1.0 q) ∙
      release_own I f g k (transition_value f k h.0) (transition_value g _ r.0) r.1.0 m i p q

  -- so has that of each form inside: temporal form l of f has location l + 1
  abbrev Waiting : ℕ → Normal → Type 0
  Waiting l f = waits f ≡ true → Own (l + 1) f

  idle : (k : ℕ) (f : Normal) → waits f ≡ false → All Waiting k (f ∷ [])
  idle k f e = (λ h. absurd (grind (arith, e, h)), tt)

  within_value : (f : Normal) (k : ℕ) → Placed A k f → All Waiting k (temporal_forms f)
  unfolding locations_of temporal_forms
  within_value top k P = tt
  within_value bottom k P = tt
  within_value (fact x) k P = tt
  within_value (opposed x) k P = tt
  within_value (both f g) k P =
      let h = placed_split A k f _ P in
      all_append Waiting _ _ k _ (length-temporals f) (within_value f k h.0) (within_value g _ h.1)
  within_value (either f g) k P =
      let h = placed_split A k f _ P in
      all_append Waiting _ _ k _ (length-temporals f) (within_value f k h.0) (within_value g _ h.1)
  within_value (next I f) k P =
      let h = placed_split A k f _ P in
      all_append Waiting _ _ k _ (length-temporals f) (within_value f k h.0) (idle _ _ refl)
  within_value (dual_next I f) k P =
      let h = placed_split A k f _ P in
      all_append Waiting _ _ k _ (length-temporals f) (within_value f k h.0) (idle _ _ refl)
  within_value (until I f g) k P =
      let h = placed_split A k f _ P in
      let r = placed_split A _ g _ h.1 in
      let own = until_own I f g k (transition_value f k h.0) (transition_value g _ r.0) r.1.0 in
      all_append Waiting _ _ k _ (length-temporals f) (within_value f k h.0)
      (all_append Waiting _ _ _ _ (length-temporals g) (within_value g _ r.0) (λ _. own, tt))
  within_value (release I f g) k P =
      let h = placed_split A k f _ P in
      let r = placed_split A _ g _ h.1 in
      let own = release_own I f g k (transition_value f k h.0) (transition_value g _ r.0) r.1.0 in
      all_append Waiting _ _ k _ (length-temporals f) (within_value f k h.0)
      (all_append Waiting _ _ _ _ (length-temporals g) (within_value g _ r.0) (λ _. own, tt))

module _ {G : Type 0} (S : Ops G) (L : Laws S) (w : Word G) (rise : Rising w) (f : Normal) where
  -- location 0, with its clock started at an event, has f's grade there
  pub automaton_value : (i : ℕ) → 1 ≤ i → i ≤ w.count → run_value S w f 0 i i ≡ normal_grade S w f i
  unfolding value_before clause_value
  automaton_value i p q =
      let m = w.count - i in
      let n : suc w.count - i ≡ suc m = omega arith in
      let e : w.count - m ≡ i = omega arith in
      rw (n, e) (transition_value S L w rise (automaton f) f 0 (automaton_placed f) m i p (omega arith))

  -- and the location of each until and release that form's
  pub waiting_value : (l : ℕ) → waits (get_or (temporal_forms f) l top) ≡ true → (i : ℕ) → 1 ≤ i → i ≤ w.count →
      run_value S w f (suc l) i i ≡ normal_grade S w (get_or (temporal_forms f) l top) i
  waiting_value l h i p q = elim (cases_lt l (length (temporal_forms f))) [
    | inl here ↦
        let m = w.count - i in
        let n : suc w.count - i ≡ suc m = omega arith in
        let e : 0 + l + 1 ≡ suc l = omega arith in
        let all = within_value S L w rise (automaton f) f 0 (automaton_placed f) in
        rw n (rw e at (all_at (Waiting S L w rise (automaton f)) (temporal_forms f) 0 top all l here) h m i p (omega arith))
    | inr past ↦
        let gone = get_or_past (temporal_forms f) l top past in
        let none = rw gone at h in
        absurd (grind (arith, none))
  ]

-- a form's grade is the value of the automaton of its normal form
pub form_value : {G : Type 0} (S : Ops G) (L : Laws S) (w : Word G) → Rising w → (f : Form) (i : ℕ) → 1 ≤ i → i ≤ w.count →
    run_value S w (normal true f) 0 i i ≡ grade S w f i
form_value S L w rise f i p q = automaton_value S L w rise (normal true f) i p q ∙ normal_is S L w true f i
