-- What the values of a location that steps from event to event come to.
use Rattle.std.proofs.Common.{◌≡◌, ℕ, zero, suc, ◌+◌, ◌-◌, ◌≤◌, Bool, true, false, cond, ◌&&◌, ltb, leb, sym, refl, ap, ◌∙◌, ap₂, arith}
use Rattle.std.proofs.lemmas.Bool.Decides.{nat_tests}
use Rattle.scales.specs.Scales.{Ops, Laws, joins, meets}
use Rattle.semantics.specs.Words.{Word, elapsed}
use Rattle.semantics.specs.Forms.{Interval, Upper, none, upto, inside, within_upper, stepped}
use Rattle.semantics.specs.Values.{test}
use Rattle.scales.proofs.Orders.{high_right, meet_low, low_meet, meet_joins, joins_same, joins_low}

-- times never fall
abbrev pub Rising : {G : Type 0} → Word G → Type 0
Rising w = (i j : ℕ) → 1 ≤ i → i ≤ j → j ≤ w.count → w.time i ≤ w.time j

above_stays : (I : Interval) (x y : ℕ) → x ≤ y → within_upper I.upper x ≡ false → inside I y ≡ false
above_stays I x y h e = go I.upper e
  where
    go : (u : Upper) → within_upper u x ≡ false → (leb I.lower y && within_upper u y) ≡ false
    go none e = grind arith
    go (upto u) e = grind (arith, nat_tests)

module _ {G : Type 0} (S : Ops G) (w : Word G) where
  -- what an until comes to from event i on, over the k events that remain, with its clock started at s
  abbrev pub until_from : Interval → (ℕ → G) → (ℕ → G) → ℕ → ℕ → ℕ → G
  until_from I f g s i k = joins S (λ j. cond (inside I (elapsed w s j)) (S.meet (g j) (meets S f i (j - i))) S.low) i k

  abbrev pub until_step : Interval → (ℕ → G) → (ℕ → G) → ℕ → ℕ → G → G
  until_step I f g s i v =
      S.join (S.meet (g i) (test S (inside I (elapsed w s i)))) (S.meet (S.meet (f i) v) (test S (within_upper I.upper (elapsed w s i))))

module _ {G : Type 0} (S : Ops G) (L : Laws S) (w : Word G) where
  cond-meet : (b : Bool) (x y : G) → S.meet x (cond b y S.low) ≡ cond b (S.meet x y) S.low
  cond-meet true x y = refl
  cond-meet false x y = meet_low S L x

  test_meet : (b : Bool) (x : G) → S.meet (test S b) x ≡ cond b x S.low
  test_meet true x = L.high_neutral x
  test_meet false x = low_meet S L x

  one_more : (f : ℕ → G) (i j : ℕ) (x : G) → suc i ≤ j →
      S.meet (f i) (S.meet x (meets S f (suc i) (j - suc i))) ≡ S.meet x (meets S f i (j - i))
  one_more f i j x p =
      let m = meets S f (suc i) (j - suc i) in
      let e : j - i ≡ suc (j - suc i) = omega arith in
      rw e (cc (L.meet_assoc (f i) x m, L.meet_assoc x (f i) m, L.meet_comm x (f i)))

  until_step_is : Rising w → (I : Interval) (f g : ℕ → G) (s i k : ℕ) → 1 ≤ i → i + k ≡ w.count →
      until_step S w I f g s i (until_from S w I f g s (suc i) k) ≡ until_from S w I f g s i (suc k)
  until_step_is rise I f g s i k p q = ap₂ S.join here (later _ refl)
    where
      at : ℕ → G
      at j = cond (inside I (elapsed w s j)) (S.meet (g j) (meets S f i (j - i))) S.low

      here : S.meet (g i) (test S (inside I (elapsed w s i))) ≡ at i
      here = let e : i - i ≡ 0 = omega arith in rw e (cond-meet _ _ _)

      later : (b : Bool) → within_upper I.upper (elapsed w s i) ≡ b →
          S.meet (S.meet (f i) (until_from S w I f g s (suc i) k)) (test S b) ≡ joins S at (suc i) k
      later true e =
          high_right S L _ ∙ meet_joins S L (f i) _ (suc i) k ∙
          joins_same S _ at (suc i) k (λ j l u. cond-meet _ _ _ ∙ ap (λ x. cond (inside I (elapsed w s j)) x S.low) (one_more f i j (g j) l))
      later false e =
          meet_low S L _ ∙ sym (joins_same S at (λ _. S.low) (suc i) k (λ j l u.
          let r = rise i j p (omega arith) (omega arith) in
          let o = above_stays I (elapsed w s i) (elapsed w s j) (omega arith) e in
          rw o) ∙ joins_low S L (suc i) k)

  -- what steps as an until does is one
  pub until_steps : Rising w → (I : Interval) (f g : ℕ → G) (s : ℕ) (v : ℕ → G) → v 0 ≡ S.low →
      ((i k : ℕ) → 1 ≤ i → i + k ≡ w.count → v (suc k) ≡ until_step S w I f g s i (v k)) →
      (k i : ℕ) → 1 ≤ i → i + k ≡ suc w.count → v k ≡ until_from S w I f g s i k
  until_steps rise I f g s v start step zero i p q = start
  until_steps rise I f g s v start step (suc k) i p q =
      step i k p (omega arith) ∙
      ap (until_step S w I f g s i) (until_steps rise I f g s v start step k (suc i) (omega arith) (omega arith)) ∙
      until_step_is rise I f g s i k p (omega arith)

  pub next_steps : (I : Interval) (f : ℕ → G) (i m : ℕ) (v : ℕ → G) → v 0 ≡ S.low →
      ((k : ℕ) → suc i + k ≡ w.count → v (suc k) ≡ S.meet (test S (inside I (elapsed w i (suc i)))) (f (suc i))) →
      i + m ≡ w.count → v m ≡ stepped S w S.low I f i
  next_steps I f i zero v start step q = let e : ltb i w.count ≡ false = grind (arith, nat_tests) in rw e start
  next_steps I f i (suc m) v start step q =
      let e : ltb i w.count ≡ true = grind (arith, nat_tests) in
      rw e (step m (omega arith) ∙ test_meet _ _)
