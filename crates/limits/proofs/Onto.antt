-- A table that stands for trees, each entry's over those of the earlier entries.
use Rattle.std.proofs.Common.{◌≡◌, ℕ, ◌+◌, ◌-◌, ◌≤◌, List, [], ◌∷◌, ◌++◌, length, get_or, sym, ap, ◌∙◌, append_assoc, arith, length-append}
use lib.ListN.{get_or-append}
use Rattle.std.proofs.lemmas.List.{get_or_push}

-- f is the last of a list of k
pub record Last {A : Type 0} (E : List A) (f : A) (k : ℕ) : Type 0 where
  pub front : List A
  pub is : E ≡ front ++ (f ∷ [])
  pub count : length E ≡ k

-- where the last stands
pub last_at : {A : Type 0} (d : A) (fs E : List A) (f : A) (b k : ℕ) → length fs ≡ b → Last E f k → get_or (fs ++ E) (b + k - 1) d ≡ f
last_at d fs E f b k e l =
    let w : fs ++ E ≡ (fs ++ l.front) ++ (f ∷ []) = ap (λ x. fs ++ x) l.is ∙ sym (append_assoc fs l.front (f ∷ [])) in
    ap (λ x. get_or x (b + k - 1) d) w ∙ get_or_push (fs ++ l.front) f d (b + k - 1)
    (length-append fs l.front ∙ omega (arith, ap length l.is ∙ length-append l.front (f ∷ []), l.count))

-- and where the one before
pub last_before : {A : Type 0} (d : A) (fs E F : List A) (f : A) (b k : ℕ) → length fs ≡ b → Last E f k → 1 ≤ k → get_or ((fs ++ E) ++ F) (b + k - 1) d ≡ f
last_before d fs E F f b k e l pos =
    get_or-append (fs ++ E) F d (b + k - 1) (rw (length-append fs E) (omega (arith, l.count))) ∙ last_at d fs E f b k e l

module _ {A N : Type 0} (d : A) (of : List A → N → A) (onto : List A → List N → List A)
    (none : (fs : List A) → onto fs [] ≡ fs)
    (more : (fs : List A) (n : N) (ns : List N) → onto fs (n ∷ ns) ≡ onto (fs ++ (of fs n ∷ [])) ns) where
  onto_append : (ms : List N) (fs : List A) (ns : List N) → onto fs (ms ++ ns) ≡ onto (onto fs ms) ns
  onto_append [] fs ns = ap (λ gs. onto gs ns) (sym (none fs))
  onto_append (m ∷ ms) fs ns = more fs m (ms ++ ns) ∙ onto_append ms (fs ++ (of fs m ∷ [])) ns ∙ ap (λ gs. onto gs ns) (sym (more fs m ms))

  onto_one : (fs : List A) (n : N) → onto fs (n ∷ []) ≡ fs ++ (of fs n ∷ [])
  onto_one fs n = more fs n [] ∙ none (fs ++ (of fs n ∷ []))

  -- one entry behind those of f
  pub onto_behind : (fs : List A) (xs : List N) (E : List A) (f h : A) (n : N) (b k : ℕ) → length fs ≡ b → Last E f k →
      onto fs xs ≡ fs ++ E → ((gs : List A) → get_or gs (b + k - 1) d ≡ f → of gs n ≡ h) →
      onto fs (xs ++ (n ∷ [])) ≡ fs ++ (E ++ (h ∷ []))
  onto_behind fs xs E f h n b k e l x w =
      onto_append xs fs (n ∷ []) ∙ ap (λ gs. onto gs (n ∷ [])) x ∙ onto_one (fs ++ E) n ∙
      ap (λ y. (fs ++ E) ++ (y ∷ [])) (w (fs ++ E) (last_at d fs E f b k e l)) ∙ append_assoc fs E (h ∷ [])

  -- one entry behind those of f and g
  pub onto_behind_two : (fs : List A) (xs ys : List N) (E F : List A) (f g h : A) (n : N) (b k m : ℕ) → length fs ≡ b → Last E f k → Last F g m → 1 ≤ k →
      onto fs xs ≡ fs ++ E → onto (fs ++ E) ys ≡ (fs ++ E) ++ F →
      ((gs : List A) → get_or gs (b + k - 1) d ≡ f → get_or gs (b + k + m - 1) d ≡ g → of gs n ≡ h) →
      onto fs (xs ++ (ys ++ (n ∷ []))) ≡ fs ++ (E ++ (F ++ (h ∷ [])))
  onto_behind_two fs xs ys E F f g h n b k m e l r pos x y w =
      let c : length (fs ++ E) ≡ b + k = length-append fs E ∙ omega (arith, l.count) in
      let left : get_or ((fs ++ E) ++ F) (b + k - 1) d ≡ f = last_before d fs E F f b k e l pos in
      let right : get_or ((fs ++ E) ++ F) (b + k + m - 1) d ≡ g = last_at d (fs ++ E) F g (b + k) m c r in
      onto_append xs fs (ys ++ (n ∷ [])) ∙ ap (λ gs. onto gs (ys ++ (n ∷ []))) x ∙ onto_append ys (fs ++ E) (n ∷ []) ∙
      ap (λ gs. onto gs (n ∷ [])) y ∙ onto_one ((fs ++ E) ++ F) n ∙ ap (λ z. ((fs ++ E) ++ F) ++ (z ∷ [])) (w ((fs ++ E) ++ F) left right) ∙
      append_assoc (fs ++ E) F (h ∷ []) ∙ append_assoc fs E (F ++ (h ∷ []))
