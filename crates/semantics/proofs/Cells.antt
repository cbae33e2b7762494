-- The cell table of a form: how long it is, and that it names only what is there.
use Rattle.std.proofs.Common.{◌≡◌, ℕ, ◌+◌, ◌*◌, ◌<◌, ◌≤◌, length, get_or, refl, arith, length-append}
use Rattle.semantics.specs.Normals.{Normal, top, bottom, fact, opposed, both, either, next, dual_next, until, release, normal_forms, temporals}
use Rattle.semantics.specs.Cells.{Cell, size, cells, table, Entry, entries_of, entries, Below}
use Rattle.semantics.proofs.Indexed.{All, all_append, all_at}

pub size_positive : (f : Normal) → 1 ≤ size f
unfolding size
size_positive top = omega arith
size_positive bottom = omega arith
size_positive (fact p) = omega arith
size_positive (opposed p) = omega arith
size_positive (both f g) = omega arith
size_positive (either f g) = omega arith
size_positive (next I f) = omega arith
size_positive (dual_next I f) = omega arith
size_positive (until I f g) = omega arith
size_positive (release I f g) = omega arith

pub length-cells : (f : Normal) (c k : ℕ) → length (cells c k f) ≡ size f
unfolding size cells
length-cells top c k = refl
length-cells bottom c k = refl
length-cells (fact p) c k = refl
length-cells (opposed p) c k = refl
length-cells (both f g) c k = simp (length-append, length-cells f, length-cells g) (omega arith)
length-cells (either f g) c k = simp (length-append, length-cells f, length-cells g) (omega arith)
length-cells (next I f) c k = simp (length-append, length-cells f) (omega arith)
length-cells (dual_next I f) c k = simp (length-append, length-cells f) (omega arith)
length-cells (until I f g) c k = simp (length-append, length-cells f, length-cells g) (omega arith)
length-cells (release I f g) c k = simp (length-append, length-cells f, length-cells g) (omega arith)

pub length-entries_of : (f : Normal) (c : ℕ) → length (entries_of c f) ≡ temporals f
unfolding temporals entries_of
length-entries_of top c = refl
length-entries_of bottom c = refl
length-entries_of (fact p) c = refl
length-entries_of (opposed p) c = refl
length-entries_of (both f g) c = simp (length-append, length-entries_of f, length-entries_of g)
length-entries_of (either f g) c = simp (length-append, length-entries_of f, length-entries_of g)
length-entries_of (next I f) c = simp (length-append, length-entries_of f)
length-entries_of (dual_next I f) c = simp (length-append, length-entries_of f)
length-entries_of (until I f g) c = simp (length-append, length-entries_of f, length-entries_of g) (omega arith)
length-entries_of (release I f g) c = simp (length-append, length-entries_of f, length-entries_of g) (omega arith)

pub length-table : (f : Normal) → length (table f) ≡ size f + 1
length-table f = simp (length-append, length-cells f)

pub length-entries : (f : Normal) → length (entries f) ≡ temporals f + 1
length-entries f = rw (length-entries_of f) (omega arith)

-- nine cells and one location a form

cells_few : (f : Normal) → size f ≤ 9 * normal_forms f
unfolding size normal_forms
cells_few top = omega arith
cells_few bottom = omega arith
cells_few (fact p) = omega arith
cells_few (opposed p) = omega arith
cells_few (both f g) = let p = cells_few f in let q = cells_few g in omega arith
cells_few (either f g) = let p = cells_few f in let q = cells_few g in omega arith
cells_few (until I f g) = let p = cells_few f in let q = cells_few g in omega arith
cells_few (release I f g) = let p = cells_few f in let q = cells_few g in omega arith
cells_few (next I f) = let p = cells_few f in omega arith
cells_few (dual_next I f) = let p = cells_few f in omega arith

temporals_few : (f : Normal) → temporals f ≤ normal_forms f
unfolding temporals normal_forms
temporals_few top = omega arith
temporals_few bottom = omega arith
temporals_few (fact p) = omega arith
temporals_few (opposed p) = omega arith
temporals_few (both f g) = let p = temporals_few f in let q = temporals_few g in omega arith
temporals_few (either f g) = let p = temporals_few f in let q = temporals_few g in omega arith
temporals_few (until I f g) = let p = temporals_few f in let q = temporals_few g in omega arith
temporals_few (release I f g) = let p = temporals_few f in let q = temporals_few g in omega arith
temporals_few (next I f) = let p = temporals_few f in omega arith
temporals_few (dual_next I f) = let p = temporals_few f in omega arith

pub table_few : (f : Normal) → length (table f) ≤ 9 * normal_forms f + 1
table_few f = let e = length-table f in let p = cells_few f in omega arith

pub entries_few : (f : Normal) → length (entries f) ≤ normal_forms f + 1
entries_few f = let e = length-entries f in let p = temporals_few f in omega arith

-- what the cells name

pub cells_below : (n : ℕ) (f : Normal) (c k : ℕ) → k + temporals f < n → All (Below n) c (cells c k f)
unfolding size temporals cells
cells_below n top c k h = (tt, tt)
cells_below n bottom c k h = (tt, tt)
cells_below n (fact p) c k h = (tt, tt)
cells_below n (opposed p) c k h = (tt, tt)
cells_below n (both f g) c k h =
    let p = size_positive f in
    let q = size_positive g in
    all_append (Below n) _ _ c _ (length-cells f c k) (cells_below n f c k (omega arith))
    (all_append (Below n) _ _ _ _ (length-cells g _ _) (cells_below n g _ _ (omega arith)) (omega arith))
cells_below n (either f g) c k h =
    let p = size_positive f in
    let q = size_positive g in
    all_append (Below n) _ _ c _ (length-cells f c k) (cells_below n f c k (omega arith))
    (all_append (Below n) _ _ _ _ (length-cells g _ _) (cells_below n g _ _ (omega arith)) (omega arith))
cells_below n (until I f g) c k h =
    let p = size_positive f in
    let q = size_positive g in
    all_append (Below n) _ _ c _ (length-cells f c k) (cells_below n f c k (omega arith))
    (all_append (Below n) _ _ _ _ (length-cells g _ _) (cells_below n g _ _ (omega arith)) (omega arith))
cells_below n (release I f g) c k h =
    let p = size_positive f in
    let q = size_positive g in
    all_append (Below n) _ _ c _ (length-cells f c k) (cells_below n f c k (omega arith))
    (all_append (Below n) _ _ _ _ (length-cells g _ _) (cells_below n g _ _ (omega arith)) (omega arith))
cells_below n (next I f) c k h =
    let p = size_positive f in
    all_append (Below n) _ _ c _ (length-cells f c k) (cells_below n f c k (omega arith)) (omega arith)
cells_below n (dual_next I f) c k h =
    let p = size_positive f in
    all_append (Below n) _ _ c _ (length-cells f c k) (cells_below n f c k (omega arith)) (omega arith)

pub table_all_below : (f : Normal) → All (Below (length (entries f))) 0 (table f)
table_all_below f =
    let p = size_positive f in
    let e = length-entries f in
    all_append (Below (length (entries f))) _ _ 0 _ (length-cells f 0 0) (cells_below _ f 0 0 (omega arith)) (omega arith)

-- each cell of the table names only earlier cells, and locations that there are
pub table_below : (f : Normal) (d : Cell) (i : ℕ) → i < length (table f) → Below (length (entries f)) i (get_or (table f) i d)
table_below f d i p =
    let e : 0 + i ≡ i = omega arith in
    rw e at (all_at (Below (length (entries f))) (table f) 0 d (table_all_below f) i p)

-- where the roots are

-- an entry's root lies below n
abbrev Rooted : ℕ → ℕ → Entry → Type 0
Rooted n l e = e.root < n

entries_of_rooted : (n : ℕ) (f : Normal) (c k : ℕ) → c + size f ≤ n → All (Rooted n) k (entries_of c f)
unfolding size entries_of
entries_of_rooted n top c k h = tt
entries_of_rooted n bottom c k h = tt
entries_of_rooted n (fact p) c k h = tt
entries_of_rooted n (opposed p) c k h = tt
entries_of_rooted n (both f g) c k h = all_append (Rooted n) _ _ k _ refl (entries_of_rooted n f c k (omega arith)) (entries_of_rooted n g _ _ (omega arith))
entries_of_rooted n (either f g) c k h = all_append (Rooted n) _ _ k _ refl (entries_of_rooted n f c k (omega arith)) (entries_of_rooted n g _ _ (omega arith))
entries_of_rooted n (next I f) c k h = all_append (Rooted n) _ _ k _ refl (entries_of_rooted n f c k (omega arith)) (omega arith)
entries_of_rooted n (dual_next I f) c k h = all_append (Rooted n) _ _ k _ refl (entries_of_rooted n f c k (omega arith)) (omega arith)
entries_of_rooted n (until I f g) c k h =
    all_append (Rooted n) _ _ k _ refl (entries_of_rooted n f c k (omega arith))
    (all_append (Rooted n) _ _ _ _ refl (entries_of_rooted n g _ _ (omega arith)) (omega arith))
entries_of_rooted n (release I f g) c k h =
    all_append (Rooted n) _ _ k _ refl (entries_of_rooted n f c k (omega arith))
    (all_append (Rooted n) _ _ _ _ refl (entries_of_rooted n g _ _ (omega arith)) (omega arith))

-- each location's root is a cell of the table
pub entries_rooted : (f : Normal) (d : Entry) (l : ℕ) → l < length (entries f) → (get_or (entries f) l d).root < length (table f)
entries_rooted f d =
    let e = length-table f in
    all_at (Rooted (length (table f))) (entries f) 0 d (omega arith, entries_of_rooted _ f 0 1 (omega arith))
