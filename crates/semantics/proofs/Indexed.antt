-- Facts of every item of a list, each with the item's number.
use Rattle.std.proofs.Common.{◌≡◌, ℕ, zero, suc, ◌+◌, ◌<◌, List, [], ◌∷◌, ◌++◌, length, get_or, add-zero, arith}

-- P holds of each item, the first of which has number c
abbrev pub All : {A : Type 0} → (ℕ → A → Type 0) → ℕ → List A → Type 0
All P c [] = Unit {0}
All P c (x ∷ xs) = P c x × All P (suc c) xs

module _ {A : Type 0} (P : ℕ → A → Type 0) where
  pub all_append : (xs ys : List A) (c m : ℕ) → length xs ≡ m → All P c xs → All P (c + m) ys → All P c (xs ++ ys)
  all_append [] ys c m e h q = let z : c + m ≡ c = omega arith in rw z at q
  all_append (x ∷ xs) ys c zero e h q = absurd (omega arith)
  all_append (x ∷ xs) ys c (suc m) e h q =
      let z : c + suc m ≡ suc c + m = omega arith in
      (h.0, all_append xs ys (suc c) m (omega arith) h.1 (rw z at q))

  pub all_split : (xs ys : List A) (c m : ℕ) → length xs ≡ m → All P c (xs ++ ys) → All P c xs × All P (c + m) ys
  all_split [] ys c m e h = let z : c + m ≡ c = omega arith in (tt, rw z h)
  all_split (x ∷ xs) ys c zero e h = absurd (omega arith)
  all_split (x ∷ xs) ys c (suc m) e h =
      let z : c + suc m ≡ suc c + m = omega arith in
      let r = all_split xs ys (suc c) m (omega arith) h.1 in
      ((h.0, r.0), rw z r.1)

  pub all_at : (xs : List A) (c : ℕ) (d : A) → All P c xs → (i : ℕ) → i < length xs → P (c + i) (get_or xs i d)
  all_at [] c d h i p = absurd (omega arith)
  all_at (x ∷ xs) c d h zero p = rw add-zero h.0
  all_at (x ∷ xs) c d h (suc i) p =
      let e : c + suc i ≡ suc c + i = omega arith in
      rw e (all_at xs (suc c) d h.1 i (omega arith))

  pub all_of : (xs : List A) (c : ℕ) (d : A) → ((i : ℕ) → i < length xs → P (c + i) (get_or xs i d)) → All P c xs
  all_of [] c d h = tt
  all_of (x ∷ xs) c d h =
      let first = rw add-zero at (h 0 (omega arith)) in
      (first, all_of xs (suc c) d (λ i p. let e : c + suc i ≡ suc c + i = omega arith in rw e at (h (suc i) (omega arith))))
