-- The automaton as a table of cells, numbered from 0 as they are written, each naming earlier ones; and the clauses that a table stands for.
use Rattle.std.specs.Prelude.{ℕ, ◌+◌, ◌-◌, ◌<◌, Bool, true, false, List, [], ◌∷◌, ◌++◌, slice_index_or}
use Rattle.semantics.specs.Forms.{Interval, Upper}
use Rattle.semantics.specs.Normals.{Normal, top, bottom, fact, opposed, both, either, next, dual_next, until, release, temporals}
use Rattle.semantics.specs.Automata.{Clause, accept, reject, holds, fails, and, or, in_interval, out_of_interval, at_most, above, reset, jump, Location}

-- a clause whose parts are cells by number
pub data Cell : Type 0 where
  cell_accept cell_reject : Cell
  cell_holds cell_fails : ℕ → Cell
  cell_and cell_or : ℕ → ℕ → Cell
  cell_in cell_out : Interval → Cell
  cell_at_most cell_above : Upper → Cell
  cell_reset cell_jump : ℕ → Cell

-- how many cells a form has, those of the forms inside it too
unfoldable pub size : Normal → ℕ
size top = 1
size bottom = 1
size (fact p) = 1
size (opposed p) = 1
size (both f g) = size f + size g + 1
size (either f g) = size f + size g + 1
size (next I f) = size f + 5
size (dual_next I f) = size f + 5
size (until I f g) = size f + size g + 9
size (release I f g) = size f + size g + 9

-- the nine cells of an until (inner is and, outer or) or a release (inner is or, outer and), from cell b on:
-- (1) reset right (2) window (3) inner of 1, 2 (4) reset left (5) jump own (6) deadline (7) inner of 4, 5 (8) inner of 7, 6 (9) outer of 3, 8
abbrev pub nine : (ℕ → ℕ → Cell) → (ℕ → ℕ → Cell) → Cell → Cell → ℕ → ℕ → ℕ → ℕ → List Cell
nine inner outer window deadline own b left right =
    cell_reset right ∷ window ∷ inner b (b + 1) ∷ cell_reset left ∷ cell_jump own ∷ deadline ∷ inner (b + 3) (b + 4) ∷
    inner (b + 6) (b + 5) ∷ outer (b + 2) (b + 7) ∷ []

-- the five cells of a next (joint is and) or a dual next (joint is or), from cell b on:
-- (1) window (2) reset inner (3) joint of 1, 2, the location's root (4) jump own (5) reset of 4
abbrev pub five : (ℕ → ℕ → Cell) → Cell → ℕ → ℕ → ℕ → List Cell
five joint window own b inner = window ∷ cell_reset inner ∷ joint b (b + 1) ∷ cell_jump own ∷ cell_reset (b + 3) ∷ []

-- the cells of a form that are written after c cells, its locations numbered from k + 1; its last cell is its root
unfoldable pub cells : ℕ → ℕ → Normal → List Cell
cells c k top = cell_accept ∷ []
cells c k bottom = cell_reject ∷ []
cells c k (fact p) = cell_holds p ∷ []
cells c k (opposed p) = cell_fails p ∷ []
cells c k (both f g) =
    cells c k f ++ (cells (c + size f) (k + temporals f) g ++
    (cell_and (c + size f - 1) (c + size f + size g - 1) ∷ []))
cells c k (either f g) =
    cells c k f ++ (cells (c + size f) (k + temporals f) g ++
    (cell_or (c + size f - 1) (c + size f + size g - 1) ∷ []))
cells c k (next I f) = cells c k f ++ five cell_and (cell_in I) (k + temporals f + 1) (c + size f) (c + size f - 1)
cells c k (dual_next I f) = cells c k f ++ five cell_or (cell_out I) (k + temporals f + 1) (c + size f) (c + size f - 1)
cells c k (until I f g) =
    cells c k f ++ (cells (c + size f) (k + temporals f) g ++
    nine cell_and cell_or (cell_in I) (cell_at_most I.upper) (k + temporals f + temporals g + 1)
    (c + size f + size g) (c + size f - 1) (c + size f + size g - 1))
cells c k (release I f g) =
    cells c k f ++ (cells (c + size f) (k + temporals f) g ++
    nine cell_or cell_and (cell_out I) (cell_above I.upper) (k + temporals f + temporals g + 1)
    (c + size f + size g) (c + size f - 1) (c + size f + size g - 1))

-- the whole table: the rule's cells, and last the root of location 0
abbrev pub table : Normal → List Cell
table f = cells 0 0 f ++ (cell_reset (size f - 1) ∷ [])

-- a location by its root cell's number, and whether it is final
pub record Entry : Type 0 where
  pub root : ℕ
  pub final : Bool

-- the locations of a form whose cells are written after c cells
unfoldable pub entries_of : ℕ → Normal → List Entry
entries_of c top = []
entries_of c bottom = []
entries_of c (fact p) = []
entries_of c (opposed p) = []
entries_of c (both f g) = entries_of c f ++ entries_of (c + size f) g
entries_of c (either f g) = entries_of c f ++ entries_of (c + size f) g
entries_of c (next I f) = entries_of c f ++ (record { root = c + size f + 2; final = false } ∷ [])
entries_of c (dual_next I f) = entries_of c f ++ (record { root = c + size f + 2; final = true } ∷ [])
entries_of c (until I f g) =
    entries_of c f ++ (entries_of (c + size f) g ++ (record { root = c + size f + size g + 8; final = false } ∷ []))
entries_of c (release I f g) =
    entries_of c f ++ (entries_of (c + size f) g ++ (record { root = c + size f + size g + 8; final = true } ∷ []))

-- all locations of a rule, location 0 first
abbrev pub entries : Normal → List Entry
entries f = record { root = size f; final = false } ∷ entries_of 0 f

-- cell x names only cells below b and locations below n
abbrev pub Below : ℕ → ℕ → Cell → Type 0
Below n b cell_accept = Unit {0}
Below n b cell_reject = Unit {0}
Below n b (cell_holds p) = Unit {0}
Below n b (cell_fails p) = Unit {0}
Below n b (cell_and x y) = (x < b) × (y < b)
Below n b (cell_or x y) = (x < b) × (y < b)
Below n b (cell_in I) = Unit {0}
Below n b (cell_out I) = Unit {0}
Below n b (cell_at_most u) = Unit {0}
Below n b (cell_above u) = Unit {0}
Below n b (cell_reset x) = x < b
Below n b (cell_jump l) = l < n

-- the clause of a cell, given those of the earlier cells
abbrev pub clause_of : List Clause → Cell → Clause
clause_of cs cell_accept = accept
clause_of cs cell_reject = reject
clause_of cs (cell_holds p) = holds p
clause_of cs (cell_fails p) = fails p
clause_of cs (cell_and x y) = and (slice_index_or cs x reject) (slice_index_or cs y reject)
clause_of cs (cell_or x y) = or (slice_index_or cs x reject) (slice_index_or cs y reject)
clause_of cs (cell_in I) = in_interval I
clause_of cs (cell_out I) = out_of_interval I
clause_of cs (cell_at_most u) = at_most u
clause_of cs (cell_above u) = above u
clause_of cs (cell_reset x) = reset (slice_index_or cs x reject)
clause_of cs (cell_jump l) = jump l

-- the clauses cs, and behind them those of further cells, in order
unfoldable pub clauses_onto : List Clause → List Cell → List Clause
clauses_onto cs [] = cs
clauses_onto cs (x ∷ xs) = clauses_onto (cs ++ (clause_of cs x ∷ [])) xs

-- the locations that entries stand for, given the clauses of the cells
unfoldable pub located : List Clause → List Entry → List Location
located cs [] = []
located cs (e ∷ es) = record { root = slice_index_or cs e.root reject; final = e.final } ∷ located cs es

-- the automaton that a table and its entries stand for
abbrev pub decoded : List Cell → List Entry → List Location
decoded xs es = located (clauses_onto [] xs) es
