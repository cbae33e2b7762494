-- The cells, locations and roots of normal forms, written one form after the other.
use Rattle.std.specs.Prelude.{ℕ, ◌+◌, ◌-◌, ◌<◌, ◌≤◌, Bool, false, List, [], ◌∷◌, ◌++◌, length, slice_index, slice_index_or}
use Rattle.semantics.specs.Forms as meaning
use Rattle.semantics.specs.Cells.{Cell, cell_accept, cell_reject, cell_holds, cell_fails, cell_and, cell_or, five, nine}
use Rattle.tables.specs.Intervals.{interval_of}
use Rattle.tables.specs.declared.normal_node.NormalNode.{NormalNode}
use Rattle.tables.specs.declared.normal_node.NormalNode.TheVariants.{Top, Bottom, Fact, Opposed, Both, Either, Next, DualNext, Until, Release}
use Rattle.translation.specs.Built.{Built}
use Rattle.translation.specs.declared.clauses.Duality.{Duality}
use Rattle.translation.specs.declared.clauses.Duality.TheVariants.{Primal, Dual}
use Rattle.translation.specs.Duals.{inner_of, outer_of, window_of, deadline_of, final_of}

-- there is room for k cells and a root more
pub record Room (B : Built) (k : ℕ) : Type 0 where
  pub cells : length B.cells + k ≤ 577
  pub roots : length B.roots < 64

-- location 0 alone
abbrev pub started : ℕ → Built
started root = record { cells = []; entries = record { root = root; final = false } ∷ []; roots = [] }

-- a cell more, for a normal form that has no location
abbrev pub plain_added : Built → Cell → Built
plain_added B x = record { cells = B.cells ++ (x ∷ []); entries = B.entries; roots = B.roots ++ (length B.cells ∷ []) }

-- cells more, for one whose location has cell r of them as its root
abbrev pub timed_added : Built → List Cell → ℕ → Bool → Built
timed_added B xs r final = record {
  cells = B.cells ++ xs;
  entries = B.entries ++ (record { root = length B.cells + r; final = final } ∷ []);
  roots = B.roots ++ ((length B.cells + (length xs - 1)) ∷ []);
}

abbrev pub root_at : Built → ℕ → ℕ
root_at B i = slice_index B.roots i

-- a next more, or its dual
abbrev pub next_added : Built → Duality → meaning.Interval → ℕ → Built
next_added B d I i =
    timed_added B (five (inner_of d) (window_of d I) (length B.entries) (length B.cells) (root_at B i)) 2 (final_of d)

-- an until more, or its dual
abbrev pub until_added : Built → Duality → meaning.Interval → ℕ → ℕ → Built
until_added B d I i j =
    timed_added B (nine (inner_of d) (outer_of d) (window_of d I) (deadline_of d I.upper) (length B.entries) (length B.cells) (root_at B i) (root_at B j)) 8 (final_of d)

-- one normal form more
abbrev pub write : Built → NormalNode → Built
write B Top = plain_added B cell_accept
write B Bottom = plain_added B cell_reject
write B (Fact p) = plain_added B (cell_holds p)
write B (Opposed p) = plain_added B (cell_fails p)
write B (Both i j) = plain_added B (cell_and (root_at B i) (root_at B j))
write B (Either i j) = plain_added B (cell_or (root_at B i) (root_at B j))
write B (Next I i) = next_added B Primal (interval_of I) i
write B (DualNext I i) = next_added B Dual (interval_of I) i
write B (Until I i j) = until_added B Primal (interval_of I) i j
write B (Release I i j) = until_added B Dual (interval_of I) i j

-- normal forms more, in order
unfoldable pub written_on : Built → List NormalNode → Built
written_on B [] = B
written_on B (n ∷ ns) = written_on (write B n) ns

-- how many cells are a normal form's own
abbrev pub width_of : NormalNode → ℕ
width_of Top = 1
width_of Bottom = 1
width_of (Fact p) = 1
width_of (Opposed p) = 1
width_of (Both i j) = 1
width_of (Either i j) = 1
width_of (Next I i) = 5
width_of (DualNext I i) = 5
width_of (Until I i j) = 9
width_of (Release I i j) = 9

unfoldable pub widths : List NormalNode → ℕ
widths [] = 0
widths (n ∷ ns) = width_of n + widths ns

-- an entry names entries below c only
abbrev pub NormalBelow : ℕ → NormalNode → Type 0
NormalBelow c Top = Unit {0}
NormalBelow c Bottom = Unit {0}
NormalBelow c (Fact p) = Unit {0}
NormalBelow c (Opposed p) = Unit {0}
NormalBelow c (Both i j) = (i < c) × (j < c)
NormalBelow c (Either i j) = (i < c) × (j < c)
NormalBelow c (Next I i) = i < c
NormalBelow c (DualNext I i) = i < c
NormalBelow c (Until I i j) = (i < c) × (j < c)
NormalBelow c (Release I i j) = (i < c) × (j < c)

-- each entry of a table names earlier ones only
abbrev pub EarlierNormals : List NormalNode → Type 0
EarlierNormals ns = (i : ℕ) → i < length ns → NormalBelow i (slice_index_or ns i Top)
