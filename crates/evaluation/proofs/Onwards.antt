-- The cells of a rule jump only behind location 0.
use Rattle.std.proofs.Common.{ℕ, ◌<◌, length, get_or, arith}
use Rattle.semantics.specs.Normals.{Normal, top, bottom, fact, opposed, both, either, next, dual_next, until, release, temporals}
use Rattle.semantics.specs.Cells.{Cell, size, cells, table}
use Rattle.semantics.proofs.Indexed.{All, all_append, all_at}
use Rattle.semantics.proofs.Cells.{length-cells}
use Rattle.evaluation.proofs.Soundness.{Onward}

-- whatever its number
abbrev Jumping : ℕ → Cell → Type 0
Jumping k x = Onward x

cells_onward : (f : Normal) (c k : ℕ) → All Jumping c (cells c k f)
unfolding size temporals cells
cells_onward top c k = (tt, tt)
cells_onward bottom c k = (tt, tt)
cells_onward (fact p) c k = (tt, tt)
cells_onward (opposed p) c k = (tt, tt)
cells_onward (both f g) c k =
    all_append Jumping _ _ c _ (length-cells f c k) (cells_onward f c k) (all_append Jumping _ _ _ _ (length-cells g _ _) (cells_onward g _ _) (tt, tt))
cells_onward (either f g) c k =
    all_append Jumping _ _ c _ (length-cells f c k) (cells_onward f c k) (all_append Jumping _ _ _ _ (length-cells g _ _) (cells_onward g _ _) (tt, tt))
cells_onward (until I f g) c k =
    all_append Jumping _ _ c _ (length-cells f c k) (cells_onward f c k) (all_append Jumping _ _ _ _ (length-cells g _ _) (cells_onward g _ _) (omega arith))
cells_onward (release I f g) c k =
    all_append Jumping _ _ c _ (length-cells f c k) (cells_onward f c k) (all_append Jumping _ _ _ _ (length-cells g _ _) (cells_onward g _ _) (omega arith))
cells_onward (next I f) c k = all_append Jumping _ _ c _ (length-cells f c k) (cells_onward f c k) (omega arith)
cells_onward (dual_next I f) c k = all_append Jumping _ _ c _ (length-cells f c k) (cells_onward f c k) (omega arith)

pub table_onward : (f : Normal) (d : Cell) (i : ℕ) → i < length (table f) → Onward (get_or (table f) i d)
table_onward f d i p = all_at Jumping (table f) 0 d (all_append Jumping _ _ 0 _ (length-cells f 0 0) (cells_onward f 0 0) (tt, tt)) i p
