-- What a cell table stands for: the clauses and locations of the automaton.
use Rattle.std.proofs.Common.{◌≡◌, ℕ, suc, ◌+◌, ◌-◌, ◌<◌, Bool, false, List, [], ◌∷◌, ◌++◌, length, get_or, sym, refl, ap, ◌∙◌, ap₂, arith, length-append}
use lib.ListN.{get_or-append}
use lib.Seq.{get_or-append_seam}
use Rattle.semantics.specs.Normals.{Normal, top, bottom, fact, opposed, both, either, next, dual_next, until, release}
use Rattle.semantics.specs.Automata.{Clause, reject, and, or, reset, jump, transition, locations_of, automaton}
use Rattle.semantics.specs.Cells.{
  Cell,
  cell_accept,
  cell_reject,
  cell_holds,
  cell_fails,
  cell_and,
  cell_or,
  cell_in,
  cell_out,
  cell_at_most,
  cell_above,
  cell_reset,
  cell_jump,
  size,
  nine,
  five,
  cells,
  table,
  Entry,
  entries_of,
  entries,
  clause_of,
  clauses_onto,
  located,
  decoded,
  Below,
}
use Rattle.semantics.proofs.Indexed.{All, all_split, all_at}
use Rattle.semantics.proofs.Cells.{length-cells, table_all_below}

-- what is written stays
clauses_keep : (xs : List Cell) (cs : List Clause) (i : ℕ) → i < length cs → get_or (clauses_onto cs xs) i reject ≡ get_or cs i reject
unfolding clauses_onto
clauses_keep [] cs i p = refl
clauses_keep (x ∷ xs) cs i p = clauses_keep xs _ i (simp length-append (omega arith)) ∙ get_or-append cs _ reject i p

-- lists that agree below c give a cell that names only those the same clause
clause_same : (n c : ℕ) (cs ds : List Clause) → ((i : ℕ) → i < c → get_or cs i reject ≡ get_or ds i reject) →
    (x : Cell) → Below n c x → clause_of cs x ≡ clause_of ds x
clause_same n c cs ds h cell_accept p = refl
clause_same n c cs ds h cell_reject p = refl
clause_same n c cs ds h (cell_holds a) p = refl
clause_same n c cs ds h (cell_fails a) p = refl
clause_same n c cs ds h (cell_and a b) p = ap₂ and (h a p.0) (h b p.1)
clause_same n c cs ds h (cell_or a b) p = ap₂ or (h a p.0) (h b p.1)
clause_same n c cs ds h (cell_in I) p = refl
clause_same n c cs ds h (cell_out I) p = refl
clause_same n c cs ds h (cell_at_most u) p = refl
clause_same n c cs ds h (cell_above u) p = refl
clause_same n c cs ds h (cell_reset a) p = ap reset (h a p)
clause_same n c cs ds h (cell_jump l) p = refl

-- place c of T has the clause of cell x
abbrev pub Reads : List Clause → ℕ → Cell → Type 0
Reads T c x = get_or T c reject ≡ clause_of T x

clauses_read : (n : ℕ) (xs : List Cell) (cs : List Clause) (c : ℕ) → length cs ≡ c → All (Below n) c xs → All (Reads (clauses_onto cs xs)) c xs
unfolding clauses_onto
clauses_read n [] cs c e h = tt
clauses_read n (x ∷ xs) cs c e h =
    let ds = cs ++ (clause_of cs x ∷ []) in
    let T = clauses_onto ds xs in
    let more : length ds ≡ suc c = simp length-append (omega arith) in
    let here : get_or ds c reject ≡ clause_of cs x = rw (← e) (get_or-append_seam cs _ [] reject) in
    let kept : (j : ℕ) → j < c → get_or cs j reject ≡ get_or T j reject =
    λ j q. sym (clauses_keep xs ds j (omega arith) ∙ get_or-append cs _ reject j (omega arith)) in
    (clauses_keep xs ds c (omega arith) ∙ here ∙ clause_same n c cs T kept x h.0, clauses_read n xs ds (suc c) more h.1)

-- in the table's clauses, each cell has the clause that it names
pub table_reads : (f : Normal) → All (Reads (clauses_onto [] (table f))) 0 (table f)
table_reads f = clauses_read _ (table f) [] 0 refl (table_all_below f)

located_append : (T : List Clause) (ss ts : List Entry) → located T (ss ++ ts) ≡ located T ss ++ located T ts
unfolding located
located_append T [] ts = refl
located_append T (s ∷ ss) ts = ap (λ l. record { root = get_or T s.root reject; final = s.final } ∷ l) (located_append T ss ts)

module _ (T : List Clause) where
  -- the cells of f, and what is written behind them
  reads_split : (f : Normal) (c k : ℕ) (rest : List Cell) → All (Reads T) c (cells c k f ++ rest) →
      All (Reads T) c (cells c k f) × All (Reads T) (c + size f) rest
  reads_split f c k rest = all_split (Reads T) (cells c k f) rest c _ (length-cells f c k)

  -- cell i of those from place c on
  read : (xs : List Cell) (c : ℕ) → All (Reads T) c xs → (i : ℕ) → i < length xs → Reads T (c + i) (get_or xs i cell_reject)
  read xs c h = all_at (Reads T) xs c cell_reject h

  -- the root of nine cells, whose inner and outer cells stand for the clauses by p and q
  nine_root : (inner outer : ℕ → ℕ → Cell) (window deadline : Cell) (p q : Clause → Clause → Clause) →
      ((x y : ℕ) → clause_of T (inner x y) ≡ p (get_or T x reject) (get_or T y reject)) →
      ((x y : ℕ) → clause_of T (outer x y) ≡ q (get_or T x reject) (get_or T y reject)) →
      (own b left right : ℕ) (c d : Clause) → All (Reads T) b (nine inner outer window deadline own b left right) →
      get_or T left reject ≡ c → get_or T right reject ≡ d →
      get_or T (b + 8) reject ≡ q (p (reset d) (clause_of T window)) (p (p (reset c) (jump own)) (clause_of T deadline))
  nine_root inner outer window deadline p q by-inner by-outer own b left right c d h l r =
      let cell = read (nine inner outer window deadline own b left right) b h in
      cell 8 (omega arith) ∙ by-outer _ _ ∙ ap₂ q
      (cell 2 (omega arith) ∙ by-inner _ _ ∙ ap₂ p (h.0 ∙ ap reset r) (cell 1 (omega arith)))
      (cell 7 (omega arith) ∙ by-inner _ _ ∙ ap₂ p
      (cell 6 (omega arith) ∙ by-inner _ _ ∙ ap₂ p (cell 3 (omega arith) ∙ ap reset l) (cell 4 (omega arith)))
      (cell 5 (omega arith)))

  -- the root of five cells, and that of their location
  five_root : (joint : ℕ → ℕ → Cell) (window : Cell) (own b inner : ℕ) → All (Reads T) b (five joint window own b inner) →
      get_or T (b + 4) reject ≡ reset (jump own)
  five_root joint window own b inner h =
      let cell = read (five joint window own b inner) b h in
      cell 4 (omega arith) ∙ ap reset (cell 3 (omega arith))

  five_location : (joint : ℕ → ℕ → Cell) (window : Cell) (p : Clause → Clause → Clause) →
      ((x y : ℕ) → clause_of T (joint x y) ≡ p (get_or T x reject) (get_or T y reject)) →
      (own b inner : ℕ) (c : Clause) → All (Reads T) b (five joint window own b inner) → get_or T inner reject ≡ c →
      get_or T (b + 2) reject ≡ p (clause_of T window) (reset c)
  five_location joint window p by-joint own b inner c h e =
      let cell = read (five joint window own b inner) b h in
      cell 2 (omega arith) ∙ by-joint _ _ ∙ ap₂ p h.0 (cell 1 (omega arith) ∙ ap reset e)

  -- the last cell of a form has its transition
  root_read : (f : Normal) (c k : ℕ) → All (Reads T) c (cells c k f) → get_or T (c + size f - 1) reject ≡ transition k f
  unfolding size cells transition
  root_read top c k h = let z : c + 1 - 1 ≡ c = omega arith in rw z h.0
  root_read bottom c k h = let z : c + 1 - 1 ≡ c = omega arith in rw z h.0
  root_read (fact p) c k h = let z : c + 1 - 1 ≡ c = omega arith in rw z h.0
  root_read (opposed p) c k h = let z : c + 1 - 1 ≡ c = omega arith in rw z h.0
  root_read (both f g) c k h =
      let a = reads_split f c k _ h in
      let b = reads_split g _ _ _ a.1 in
      let z : c + (size f + size g + 1) - 1 ≡ c + size f + size g = omega arith in
      rw z (b.1.0 ∙ ap₂ and (root_read f c k a.0) (root_read g _ _ b.0))
  root_read (either f g) c k h =
      let a = reads_split f c k _ h in
      let b = reads_split g _ _ _ a.1 in
      let z : c + (size f + size g + 1) - 1 ≡ c + size f + size g = omega arith in
      rw z (b.1.0 ∙ ap₂ or (root_read f c k a.0) (root_read g _ _ b.0))
  root_read (next I f) c k h =
      let z : c + (size f + 5) - 1 ≡ c + size f + 4 = omega arith in
      rw z (five_root cell_and (cell_in I) _ _ _ (reads_split f c k _ h).1)
  root_read (dual_next I f) c k h =
      let z : c + (size f + 5) - 1 ≡ c + size f + 4 = omega arith in
      rw z (five_root cell_or (cell_out I) _ _ _ (reads_split f c k _ h).1)
  root_read (until I f g) c k h =
      let a = reads_split f c k _ h in
      let b = reads_split g _ _ _ a.1 in
      let z : c + (size f + size g + 9) - 1 ≡ c + size f + size g + 8 = omega arith in
      rw z (nine_root cell_and cell_or (cell_in I) (cell_at_most I.upper) and or (λ _ _. refl) (λ _ _. refl) _ _ _ _ _ _ b.1 (root_read f c k a.0) (root_read g _ _ b.0))
  root_read (release I f g) c k h =
      let a = reads_split f c k _ h in
      let b = reads_split g _ _ _ a.1 in
      let z : c + (size f + size g + 9) - 1 ≡ c + size f + size g + 8 = omega arith in
      rw z (nine_root cell_or cell_and (cell_out I) (cell_above I.upper) or and (λ _ _. refl) (λ _ _. refl) _ _ _ _ _ _ b.1 (root_read f c k a.0) (root_read g _ _ b.0))

  one_located : (r : ℕ) (b : Bool) (c : Clause) → get_or T r reject ≡ c →
      located T (record { root = r; final = b } ∷ []) ≡ record { root = c; final = b } ∷ []
  unfolding located
  one_located r b c e = rw e

  -- and its entries are its locations
  entries_of_read : (f : Normal) (c k : ℕ) → All (Reads T) c (cells c k f) → located T (entries_of c f) ≡ locations_of k f
  unfolding size cells entries_of located locations_of
  entries_of_read top c k h = refl
  entries_of_read bottom c k h = refl
  entries_of_read (fact p) c k h = refl
  entries_of_read (opposed p) c k h = refl
  entries_of_read (both f g) c k h =
      let a = reads_split f c k _ h in
      let b = reads_split g _ _ _ a.1 in
      located_append T (entries_of c f) _ ∙ ap₂ ◌++◌ (entries_of_read f c k a.0) (entries_of_read g _ _ b.0)
  entries_of_read (either f g) c k h =
      let a = reads_split f c k _ h in
      let b = reads_split g _ _ _ a.1 in
      located_append T (entries_of c f) _ ∙ ap₂ ◌++◌ (entries_of_read f c k a.0) (entries_of_read g _ _ b.0)
  entries_of_read (next I f) c k h =
      let a = reads_split f c k _ h in
      let own = five_location cell_and (cell_in I) and (λ _ _. refl) _ _ _ _ a.1 (root_read f c k a.0) in
      located_append T (entries_of c f) _ ∙ ap₂ ◌++◌ (entries_of_read f c k a.0) (one_located _ _ _ own)
  entries_of_read (dual_next I f) c k h =
      let a = reads_split f c k _ h in
      let own = five_location cell_or (cell_out I) or (λ _ _. refl) _ _ _ _ a.1 (root_read f c k a.0) in
      located_append T (entries_of c f) _ ∙ ap₂ ◌++◌ (entries_of_read f c k a.0) (one_located _ _ _ own)
  entries_of_read (until I f g) c k h =
      let a = reads_split f c k _ h in
      let b = reads_split g _ _ _ a.1 in
      let z : c + (size f + size g + 9) - 1 ≡ c + size f + size g + 8 = omega arith in
      let own = rw z at (root_read (until I f g) c k h) in
      located_append T (entries_of c f) _ ∙ ap₂ ◌++◌ (entries_of_read f c k a.0)
      (located_append T (entries_of (c + size f) g) _ ∙ ap₂ ◌++◌ (entries_of_read g _ _ b.0) (one_located _ _ _ own))
  entries_of_read (release I f g) c k h =
      let a = reads_split f c k _ h in
      let b = reads_split g _ _ _ a.1 in
      let z : c + (size f + size g + 9) - 1 ≡ c + size f + size g + 8 = omega arith in
      let own = rw z at (root_read (release I f g) c k h) in
      located_append T (entries_of c f) _ ∙ ap₂ ◌++◌ (entries_of_read f c k a.0)
      (located_append T (entries_of (c + size f) g) _ ∙ ap₂ ◌++◌ (entries_of_read g _ _ b.0) (one_located _ _ _ own))

-- the table stands for the automaton
pub table_decoded : (f : Normal) → decoded (table f) (entries f) ≡ automaton f
unfolding located
table_decoded f =
    let T = clauses_onto [] (table f) in
    let a = reads_split T f 0 0 _ (table_reads f) in
    let z : 0 + size f - 1 ≡ size f - 1 = omega arith in
    let y : 0 + size f ≡ size f = omega arith in
    let whole : get_or T (0 + size f) reject ≡ reset (transition 0 f) = a.1.0 ∙ ap reset (rw z at (root_read T f 0 0 a.0)) in
    ap₂ (λ c l. record { root = c; final = false } ∷ l) (rw y at whole) (entries_of_read T f 0 0 a.0)
