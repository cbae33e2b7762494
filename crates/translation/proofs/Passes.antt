-- A pass over a table of normal forms, entry by entry.
use Rattle.std.proofs.Common.{◌≡◌, ℕ, ◌+◌, ◌*◌, ◌<◌, ◌≤◌, List, [], ◌∷◌, ◌++◌, length, get_or, take, Ok, Err, Result, refl, ap, ◌∙◌, arith, length-append, MatchResult}
use Rattle.std.specs.List.{sum_by}
use Rattle.std.proofs.lemmas.List.Sums.{sum_by-cons}
use Rattle.std.proofs.lemmas.List.{take_more, length-map}
use Rattle.tables.specs.CellTables.{cell_of, cells_of}
use Rattle.tables.specs.declared.cell.Cell.{Cell}
use Rattle.tables.specs.declared.normal_node.NormalNode.{NormalNode}
use Rattle.tables.specs.declared.normal_node.NormalNode.TheVariants.{Top, Bottom, Fact, Opposed, Both, Either, Next, DualNext, Until, Release}
use Rattle.translation.specs.Built.{Built}
use Rattle.translation.specs.Building.{write, written_on, width_of, widths}

pub built_same : (B C : Built) → B.cells ≡ C.cells → B.entries ≡ C.entries → B.roots ≡ C.roots → B ≡ C
built_same B C p q r = λ i. record { cells = p i; entries = q i; roots = r i }

pub on_append : (ms : List NormalNode) (B : Built) (ns : List NormalNode) → written_on B (ms ++ ns) ≡ written_on (written_on B ms) ns
unfolding written_on
on_append [] B ns = refl
on_append (m ∷ ms) B ns = on_append ms (write B m) ns

pub on_none : (B : Built) → written_on B [] ≡ B
unfolding written_on
on_none B = refl

pub on_one : (B : Built) (n : NormalNode) → written_on B (n ∷ []) ≡ write B n
unfolding written_on
on_one B n = refl

pub on_more : (B : Built) (ns : List NormalNode) (i : ℕ) (d : NormalNode) → i < length ns → written_on B (take (i + 1) ns) ≡ write (written_on B (take i ns)) (get_or ns i d)
on_more B ns i d h = ap (written_on B) (take_more ns i d h) ∙ on_append (take i ns) B (get_or ns i d ∷ []) ∙ on_one (written_on B (take i ns)) (get_or ns i d)

write_roots : (B : Built) (n : NormalNode) → length (write B n).roots ≡ length B.roots + 1
write_roots B Top = length-append B.roots _
write_roots B Bottom = length-append B.roots _
write_roots B (Fact p) = length-append B.roots _
write_roots B (Opposed p) = length-append B.roots _
write_roots B (Both i j) = length-append B.roots _
write_roots B (Either i j) = length-append B.roots _
write_roots B (Next I i) = length-append B.roots _
write_roots B (DualNext I i) = length-append B.roots _
write_roots B (Until I i j) = length-append B.roots _
write_roots B (Release I i j) = length-append B.roots _

write_cells : (B : Built) (n : NormalNode) → length (write B n).cells ≤ length B.cells + 9
write_cells B Top = simp length-append (omega arith)
write_cells B Bottom = simp length-append (omega arith)
write_cells B (Fact p) = simp length-append (omega arith)
write_cells B (Opposed p) = simp length-append (omega arith)
write_cells B (Both i j) = simp length-append (omega arith)
write_cells B (Either i j) = simp length-append (omega arith)
write_cells B (Next I i) = simp length-append (omega arith)
write_cells B (DualNext I i) = simp length-append (omega arith)
write_cells B (Until I i j) = simp length-append (omega arith)
write_cells B (Release I i j) = simp length-append (omega arith)

write_entries : (B : Built) (n : NormalNode) → length (write B n).entries ≤ length B.entries + 1
write_entries B Top = omega arith
write_entries B Bottom = omega arith
write_entries B (Fact p) = omega arith
write_entries B (Opposed p) = omega arith
write_entries B (Both i j) = omega arith
write_entries B (Either i j) = omega arith
write_entries B (Next I i) = simp length-append (omega arith)
write_entries B (DualNext I i) = simp length-append (omega arith)
write_entries B (Until I i j) = simp length-append (omega arith)
write_entries B (Release I i j) = simp length-append (omega arith)

-- how much a pass has written
pub record Lengths (B C : Built) (k : ℕ) : Type 0 where
  pub roots : length C.roots ≡ length B.roots + k
  pub cells : length C.cells ≤ length B.cells + 9 * k
  pub entries : length C.entries ≤ length B.entries + k

pub on_lengths : (ns : List NormalNode) (B : Built) → Lengths B (written_on B ns) (length ns)
unfolding written_on
on_lengths [] B = record { roots = omega arith; cells = omega arith; entries = omega arith }
on_lengths (n ∷ ns) B =
    let a = on_lengths ns (write B n) in
    record {
      roots = omega (arith, a.roots, write_roots B n);
      cells = omega (arith, a.cells, write_cells B n);
      entries = omega (arith, a.entries, write_entries B n);
    }

pub width_few : (n : NormalNode) → (1 ≤ width_of n) × (width_of n ≤ 9)
width_few Top = (omega arith, omega arith)
width_few Bottom = (omega arith, omega arith)
width_few (Fact p) = (omega arith, omega arith)
width_few (Opposed p) = (omega arith, omega arith)
width_few (Both i j) = (omega arith, omega arith)
width_few (Either i j) = (omega arith, omega arith)
width_few (Next I i) = (omega arith, omega arith)
width_few (DualNext I i) = (omega arith, omega arith)
width_few (Until I i j) = (omega arith, omega arith)
width_few (Release I i j) = (omega arith, omega arith)

pub widths_append : (ms ns : List NormalNode) → widths (ms ++ ns) ≡ widths ms + widths ns
unfolding widths
widths_append [] ns = omega arith
widths_append (m ∷ ms) ns = omega (arith, widths_append ms ns)

-- the widths are their sum
pub widths_summed : (ns : List NormalNode) → sum_by width_of ns ≡ widths ns
unfolding widths
widths_summed [] = refl
widths_summed (n ∷ ns) = sum_by-cons width_of n ns ∙ ap (λ k. width_of n + k) (widths_summed ns)

pub widths_one : (n : NormalNode) → widths (n ∷ []) ≡ width_of n
unfolding widths
widths_one n = omega arith

pub widths_few : (ns : List NormalNode) → (length ns ≤ widths ns) × (widths ns ≤ 9 * length ns)
unfolding widths
widths_few [] = (omega arith, omega arith)
widths_few (n ∷ ns) = let a = widths_few ns in let b = width_few n in (omega (arith, a.0, b.0), omega (arith, a.1, b.1))

-- an item for which there is room is there
pub pushed : {T : Type 0} (r : Result (Unit {0}) T) (before after : List T) (item : T) (P : Type 0) (N : ℕ) →
    MatchResult r (λ _. after ≡ before ++ (item ∷ [])) (λ back. (back ≡ item) × P × (length before ≡ N)) → length before < N → after ≡ before ++ (item ∷ [])
pushed (Ok x) before after item P N h room = h
pushed (Err e) before after item P N h room = absurd (omega (arith, h.2))

pub cells_counted : (xs : List Cell) → length (cells_of xs) ≡ length xs
cells_counted xs = length-map xs cell_of
