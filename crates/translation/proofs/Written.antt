-- What a pass over the table of a normal form writes: the cells and locations of the translation.
use Rattle.std.proofs.Common.{◌≡◌, ℕ, ◌+◌, ◌-◌, Bool, true, false, List, [], ◌∷◌, ◌++◌, length, sym, refl, ap, ◌∙◌, ap₂, append_assoc, zero-add, arith, length-append}
use Rattle.std.proofs.lemmas.List.{append-nil}
use Rattle.semantics.specs.Forms as meaning
use Rattle.semantics.specs.Normals.{Normal, top, bottom, fact, opposed, both, either, next, dual_next, until, release, normal_forms, temporals}
use Rattle.semantics.specs.Cells.{Cell, cell_accept, cell_reject, cell_holds, cell_fails, cell_and, cell_or, cell_in, cell_out, cell_at_most, cell_above, cell_reset, size, five, nine, cells, table, entries_of, entries}
use Rattle.semantics.proofs.Cells.{length-cells, length-entries_of}
use Rattle.semantics.proofs.Indexed.{All, all_append, all_at}
use Rattle.tables.specs.declared.normal_node.NormalNode.{NormalNode}
use Rattle.tables.specs.declared.normal_node.NormalNode.TheVariants.{Top, Bottom, Fact, Opposed, Both, Either, Next, DualNext, Until, Release}
use Rattle.limits.proofs.Onto.{Last, last_at, last_before}
use Rattle.normalizing.specs.NormalWritten.{interval_as, normal_written}
use Rattle.normalizing.proofs.Making.{normal_positive, length-normal}
use Rattle.normalizing.proofs.Standing.{interval_back}
use Rattle.translation.specs.Built.{Built}
use Rattle.translation.specs.Building.{started, plain_added, timed_added, root_at, write, written_on, width_of, widths, NormalBelow, EarlierNormals}
use Rattle.translation.proofs.Passes.{built_same, on_append, on_one, widths_append, widths_one}

-- the roots of a normal form and of those inside it, whose cells are written after c others
unfoldable roots_of : ℕ → Normal → List ℕ
roots_of c top = c ∷ []
roots_of c bottom = c ∷ []
roots_of c (fact p) = c ∷ []
roots_of c (opposed p) = c ∷ []
roots_of c (both f g) = roots_of c f ++ (roots_of (c + size f) g ++ ((c + size f + size g) ∷ []))
roots_of c (either f g) = roots_of c f ++ (roots_of (c + size f) g ++ ((c + size f + size g) ∷ []))
roots_of c (next I f) = roots_of c f ++ ((c + size f + 4) ∷ [])
roots_of c (dual_next I f) = roots_of c f ++ ((c + size f + 4) ∷ [])
roots_of c (until I f g) = roots_of c f ++ (roots_of (c + size f) g ++ ((c + size f + size g + 8) ∷ []))
roots_of c (release I f g) = roots_of c f ++ (roots_of (c + size f) g ++ ((c + size f + size g + 8) ∷ []))

last_one : (E : List ℕ) (x y k : ℕ) → length E ≡ k → x ≡ y → Last (E ++ (x ∷ [])) y (k + 1)
last_one E x y k e s = record { front = E; is = ap (λ z. E ++ (z ∷ [])) s; count = length-append E (x ∷ []) ∙ omega arith }

last_two : (E F : List ℕ) (x y k m : ℕ) → length E ≡ k → length F ≡ m → x ≡ y → Last (E ++ (F ++ (x ∷ []))) y (k + m + 1)
last_two E F x y k m e d s = record { front = E ++ F; is = ap (λ z. E ++ (F ++ (z ∷ []))) s ∙ sym (append_assoc E F (y ∷ [])); count = simp length-append (omega arith) }

roots_last : (f : Normal) (c : ℕ) → Last (roots_of c f) (c + size f - 1) (normal_forms f)
unfolding roots_of size normal_forms
roots_last top c = last_one [] c (c + 1 - 1) 0 refl (omega arith)
roots_last bottom c = last_one [] c (c + 1 - 1) 0 refl (omega arith)
roots_last (fact p) c = last_one [] c (c + 1 - 1) 0 refl (omega arith)
roots_last (opposed p) c = last_one [] c (c + 1 - 1) 0 refl (omega arith)
roots_last (both f g) c = last_two (roots_of c f) (roots_of (c + size f) g) (c + size f + size g) (c + (size f + size g + 1) - 1) (normal_forms f) (normal_forms g) (roots_last f c).count (roots_last g (c + size f)).count (omega arith)
roots_last (either f g) c = last_two (roots_of c f) (roots_of (c + size f) g) (c + size f + size g) (c + (size f + size g + 1) - 1) (normal_forms f) (normal_forms g) (roots_last f c).count (roots_last g (c + size f)).count (omega arith)
roots_last (next I f) c = last_one (roots_of c f) (c + size f + 4) (c + (size f + 5) - 1) (normal_forms f) (roots_last f c).count (omega arith)
roots_last (dual_next I f) c = last_one (roots_of c f) (c + size f + 4) (c + (size f + 5) - 1) (normal_forms f) (roots_last f c).count (omega arith)
roots_last (until I f g) c = last_two (roots_of c f) (roots_of (c + size f) g) (c + size f + size g + 8) (c + (size f + size g + 9) - 1) (normal_forms f) (normal_forms g) (roots_last f c).count (roots_last g (c + size f)).count (omega arith)
roots_last (release I f g) c = last_two (roots_of c f) (roots_of (c + size f) g) (c + size f + size g + 8) (c + (size f + size g + 9) - 1) (normal_forms f) (normal_forms g) (roots_last f c).count (roots_last g (c + size f)).count (omega arith)

-- B with the cells, locations and roots of f behind
abbrev extended : Built → ℕ → ℕ → Normal → Built
extended B c k f = record { cells = B.cells ++ cells c k f; entries = B.entries ++ entries_of c f; roots = B.roots ++ roots_of c f }

-- how much B has: b roots, c cells, and k + 1 locations
record Has (B : Built) (b c k : ℕ) : Type 0 where
  roots : length B.roots ≡ b
  cells : length B.cells ≡ c
  entries : length B.entries ≡ k + 1

has_more : (B : Built) (b c k : ℕ) (f : Normal) → Has B b c k → Has (extended B c k f) (b + normal_forms f) (c + size f) (k + temporals f)
has_more B b c k f h = record {
  roots = length-append B.roots (roots_of c f) ∙ omega (arith, h.roots, (roots_last f c).count);
  cells = length-append B.cells (cells c k f) ∙ omega (arith, h.cells, length-cells f c k);
  entries = length-append B.entries (entries_of c f) ∙ omega (arith, h.entries, length-entries_of f c);
}

assoc_three : {A : Type 0} (E F G X : List A) → ((E ++ F) ++ G) ++ X ≡ E ++ (F ++ (G ++ X))
assoc_three E F G X = append_assoc (E ++ F) G X ∙ append_assoc E F (G ++ X)

-- a form over one part
after_one : (B : Built) (b c k : ℕ) (f : Normal) (n : NormalNode) (D : Built) → written_on B (normal_written b f) ≡ extended B c k f →
    write (extended B c k f) n ≡ D → written_on B (normal_written b f ++ (n ∷ [])) ≡ D
after_one B b c k f n D x y = on_append (normal_written b f) B (n ∷ []) ∙ ap (λ C. written_on C (n ∷ [])) x ∙ on_one (extended B c k f) n ∙ y

-- a form over two parts
abbrev twice : Built → ℕ → ℕ → Normal → Normal → Built
twice B c k f g = extended (extended B c k f) (c + size f) (k + temporals f) g

after_two : (B : Built) (b c k : ℕ) (f g : Normal) (n : NormalNode) (D : Built) → written_on B (normal_written b f) ≡ extended B c k f →
    written_on (extended B c k f) (normal_written (b + normal_forms f) g) ≡ twice B c k f g →
    write (twice B c k f g) n ≡ D → written_on B (normal_written b f ++ (normal_written (b + normal_forms f) g ++ (n ∷ []))) ≡ D
after_two B b c k f g n D x z y =
    on_append (normal_written b f) B (normal_written (b + normal_forms f) g ++ (n ∷ [])) ∙ ap (λ C. written_on C (normal_written (b + normal_forms f) g ++ (n ∷ []))) x ∙
    on_append (normal_written (b + normal_forms f) g) (extended B c k f) (n ∷ []) ∙ ap (λ C. written_on C (n ∷ [])) z ∙ on_one (twice B c k f g) n ∙ y

root_one : (B : Built) (b c k : ℕ) (f : Normal) → Has B b c k → root_at (extended B c k f) (b + normal_forms f - 1) ≡ c + size f - 1
root_one B b c k f h = last_at 0 B.roots (roots_of c f) (c + size f - 1) b (normal_forms f) h.roots (roots_last f c)

root_left : (B : Built) (b c k : ℕ) (f g : Normal) → Has B b c k → root_at (twice B c k f g) (b + normal_forms f - 1) ≡ c + size f - 1
root_left B b c k f g h = last_before 0 B.roots (roots_of c f) (roots_of (c + size f) g) (c + size f - 1) b (normal_forms f) h.roots (roots_last f c) (normal_positive f)

root_right : (B : Built) (b c k : ℕ) (f g : Normal) → Has B b c k → root_at (twice B c k f g) (b + normal_forms f + normal_forms g - 1) ≡ c + size f + size g - 1
root_right B b c k f g h = root_one (extended B c k f) (b + normal_forms f) (c + size f) (k + temporals f) g (has_more B b c k f h)

-- one cell more over two parts
plain_two : (B : Built) (b c k : ℕ) (f g : Normal) (joint : ℕ → ℕ → Cell) (x y : ℕ) → Has B b c k → x ≡ c + size f - 1 → y ≡ c + size f + size g - 1 →
    plain_added (twice B c k f g) (joint x y) ≡ record {
      cells = B.cells ++ (cells c k f ++ (cells (c + size f) (k + temporals f) g ++ (joint (c + size f - 1) (c + size f + size g - 1) ∷ [])));
      entries = B.entries ++ (entries_of c f ++ entries_of (c + size f) g);
      roots = B.roots ++ (roots_of c f ++ (roots_of (c + size f) g ++ ((c + size f + size g) ∷ [])));
    }
plain_two B b c k f g joint x y h p q =
    let m = (has_more (extended B c k f) _ _ _ g (has_more B b c k f h)).cells in
    built_same _ _ (assoc_three B.cells (cells c k f) (cells (c + size f) (k + temporals f) g) (joint x y ∷ []) ∙
    (λ t. B.cells ++ (cells c k f ++ (cells (c + size f) (k + temporals f) g ++ (joint (p t) (q t) ∷ [])))))
    (append_assoc B.entries (entries_of c f) (entries_of (c + size f) g))
    (assoc_three B.roots (roots_of c f) (roots_of (c + size f) g) _ ∙ ap (λ z. B.roots ++ (roots_of c f ++ (roots_of (c + size f) g ++ (z ∷ [])))) m)

-- five cells more over one part
timed_one : (B : Built) (b c k : ℕ) (f : Normal) (joint : ℕ → ℕ → Cell) (window : Cell) (x : ℕ) (final : Bool) → Has B b c k → x ≡ c + size f - 1 →
    timed_added (extended B c k f) (five joint window (length (extended B c k f).entries) (length (extended B c k f).cells) x) 2 final ≡ record {
      cells = B.cells ++ (cells c k f ++ five joint window (k + temporals f + 1) (c + size f) (c + size f - 1));
      entries = B.entries ++ (entries_of c f ++ (record { root = c + size f + 2; final = final } ∷ []));
      roots = B.roots ++ (roots_of c f ++ ((c + size f + 4) ∷ []));
    }
timed_one B b c k f joint window x final h p =
    let a = has_more B b c k f h in
    built_same _ _ (append_assoc B.cells (cells c k f) _ ∙ (λ t. B.cells ++ (cells c k f ++ five joint window (a.entries t) (a.cells t) (p t))))
    (append_assoc B.entries (entries_of c f) _ ∙ (λ t. B.entries ++ (entries_of c f ++ (record { root = a.cells t + 2; final = final } ∷ []))))
    (append_assoc B.roots (roots_of c f) _ ∙ (λ t. B.roots ++ (roots_of c f ++ ((a.cells t + 4) ∷ []))))

-- nine cells more over two parts
timed_two : (B : Built) (b c k : ℕ) (f g : Normal) (inner outer : ℕ → ℕ → Cell) (window deadline : Cell) (x y : ℕ) (final : Bool) → Has B b c k →
    x ≡ c + size f - 1 → y ≡ c + size f + size g - 1 →
    timed_added (twice B c k f g) (nine inner outer window deadline (length (twice B c k f g).entries) (length (twice B c k f g).cells) x y) 8 final ≡ record {
      cells = B.cells ++ (cells c k f ++ (cells (c + size f) (k + temporals f) g ++ nine inner outer window deadline (k + temporals f + temporals g + 1) (c + size f + size g) (c + size f - 1) (c + size f + size g - 1)));
      entries = B.entries ++ (entries_of c f ++ (entries_of (c + size f) g ++ (record { root = c + size f + size g + 8; final = final } ∷ [])));
      roots = B.roots ++ (roots_of c f ++ (roots_of (c + size f) g ++ ((c + size f + size g + 8) ∷ [])));
    }
timed_two B b c k f g inner outer window deadline x y final h p q =
    let a = has_more (extended B c k f) _ _ _ g (has_more B b c k f h) in
    built_same _ _ (assoc_three B.cells (cells c k f) (cells (c + size f) (k + temporals f) g) _ ∙
    (λ t. B.cells ++ (cells c k f ++ (cells (c + size f) (k + temporals f) g ++ nine inner outer window deadline (a.entries t) (a.cells t) (p t) (q t)))))
    (assoc_three B.entries (entries_of c f) (entries_of (c + size f) g) _ ∙ (λ t. B.entries ++ (entries_of c f ++ (entries_of (c + size f) g ++ (record { root = a.cells t + 8; final = final } ∷ [])))))
    (assoc_three B.roots (roots_of c f) (roots_of (c + size f) g) _ ∙ (λ t. B.roots ++ (roots_of c f ++ (roots_of (c + size f) g ++ ((a.cells t + 8) ∷ [])))))

-- a leaf
plain_none : (B : Built) (b c k : ℕ) (x : Cell) → Has B b c k → plain_added B x ≡ record { cells = B.cells ++ (x ∷ []); entries = B.entries ++ []; roots = B.roots ++ (c ∷ []) }
plain_none B b c k x h = built_same _ _ refl (sym (append-nil B.entries)) (ap (λ z. B.roots ++ (z ∷ [])) h.cells)

as_next : (I : meaning.Interval) (B : Built) (b c k : ℕ) (f : Normal) → Has B b c k → write (extended B c k f) (Next (interval_as I) (b + normal_forms f - 1)) ≡ extended B c k (next I f)
unfolding cells entries_of roots_of
as_next I B b c k f h =
    ap (λ J. timed_added (extended B c k f) (five cell_and (cell_in J) (length (extended B c k f).entries) (length (extended B c k f).cells) (root_at (extended B c k f) (b + normal_forms f - 1))) 2 false) (interval_back I) ∙
    timed_one B b c k f cell_and (cell_in I) _ false h (root_one B b c k f h)

as_dual_next : (I : meaning.Interval) (B : Built) (b c k : ℕ) (f : Normal) → Has B b c k → write (extended B c k f) (DualNext (interval_as I) (b + normal_forms f - 1)) ≡ extended B c k (dual_next I f)
unfolding cells entries_of roots_of
as_dual_next I B b c k f h =
    ap (λ J. timed_added (extended B c k f) (five cell_or (cell_out J) (length (extended B c k f).entries) (length (extended B c k f).cells) (root_at (extended B c k f) (b + normal_forms f - 1))) 2 true) (interval_back I) ∙
    timed_one B b c k f cell_or (cell_out I) _ true h (root_one B b c k f h)

as_until : (I : meaning.Interval) (B : Built) (b c k : ℕ) (f g : Normal) → Has B b c k → write (twice B c k f g) (Until (interval_as I) (b + normal_forms f - 1) (b + normal_forms f + normal_forms g - 1)) ≡ extended B c k (until I f g)
unfolding cells entries_of roots_of
as_until I B b c k f g h =
    ap (λ J. timed_added (twice B c k f g) (nine cell_and cell_or (cell_in J) (cell_at_most J.upper) (length (twice B c k f g).entries) (length (twice B c k f g).cells) (root_at (twice B c k f g) (b + normal_forms f - 1)) (root_at (twice B c k f g) (b + normal_forms f + normal_forms g - 1))) 8 false) (interval_back I) ∙
    timed_two B b c k f g cell_and cell_or (cell_in I) (cell_at_most I.upper) _ _ false h (root_left B b c k f g h) (root_right B b c k f g h)

as_release : (I : meaning.Interval) (B : Built) (b c k : ℕ) (f g : Normal) → Has B b c k → write (twice B c k f g) (Release (interval_as I) (b + normal_forms f - 1) (b + normal_forms f + normal_forms g - 1)) ≡ extended B c k (release I f g)
unfolding cells entries_of roots_of
as_release I B b c k f g h =
    ap (λ J. timed_added (twice B c k f g) (nine cell_or cell_and (cell_out J) (cell_above J.upper) (length (twice B c k f g).entries) (length (twice B c k f g).cells) (root_at (twice B c k f g) (b + normal_forms f - 1)) (root_at (twice B c k f g) (b + normal_forms f + normal_forms g - 1))) 8 true) (interval_back I) ∙
    timed_two B b c k f g cell_or cell_and (cell_out I) (cell_above I.upper) _ _ true h (root_left B b c k f g h) (root_right B b c k f g h)

whole : (f : Normal) (B : Built) (b c k : ℕ) → Has B b c k → written_on B (normal_written b f) ≡ extended B c k f
unfolding normal_written cells entries_of roots_of
whole top B b c k h = on_one B Top ∙ plain_none B b c k cell_accept h
whole bottom B b c k h = on_one B Bottom ∙ plain_none B b c k cell_reject h
whole (fact p) B b c k h = on_one B (Fact p) ∙ plain_none B b c k (cell_holds p) h
whole (opposed p) B b c k h = on_one B (Opposed p) ∙ plain_none B b c k (cell_fails p) h
whole (both f g) B b c k h =
    after_two B b c k f g (Both (b + normal_forms f - 1) (b + normal_forms f + normal_forms g - 1)) _ (whole f B b c k h) (whole g _ _ _ _ (has_more B b c k f h))
    (plain_two B b c k f g cell_and _ _ h (root_left B b c k f g h) (root_right B b c k f g h))
whole (either f g) B b c k h =
    after_two B b c k f g (Either (b + normal_forms f - 1) (b + normal_forms f + normal_forms g - 1)) _ (whole f B b c k h) (whole g _ _ _ _ (has_more B b c k f h))
    (plain_two B b c k f g cell_or _ _ h (root_left B b c k f g h) (root_right B b c k f g h))
whole (next I f) B b c k h =
    after_one B b c k f (Next (interval_as I) (b + normal_forms f - 1)) _ (whole f B b c k h)
    (as_next I B b c k f h)
whole (dual_next I f) B b c k h =
    after_one B b c k f (DualNext (interval_as I) (b + normal_forms f - 1)) _ (whole f B b c k h)
    (as_dual_next I B b c k f h)
whole (until I f g) B b c k h =
    after_two B b c k f g (Until (interval_as I) (b + normal_forms f - 1) (b + normal_forms f + normal_forms g - 1)) _ (whole f B b c k h) (whole g _ _ _ _ (has_more B b c k f h))
    (as_until I B b c k f g h)
whole (release I f g) B b c k h =
    after_two B b c k f g (Release (interval_as I) (b + normal_forms f - 1) (b + normal_forms f + normal_forms g - 1)) _ (whole f B b c k h) (whole g _ _ _ _ (has_more B b c k f h))
    (as_release I B b c k f g h)

-- the widths of its entries are its cells
widths_one_part : (xs : List NormalNode) (n : NormalNode) (k m : ℕ) → widths xs ≡ k → width_of n ≡ m → widths (xs ++ (n ∷ [])) ≡ k + m
widths_one_part xs n k m e d = widths_append xs (n ∷ []) ∙ ap₂ ◌+◌ e (widths_one n ∙ d)

widths_two_parts : (xs ys : List NormalNode) (n : NormalNode) (k l m : ℕ) → widths xs ≡ k → widths ys ≡ l → width_of n ≡ m → widths (xs ++ (ys ++ (n ∷ []))) ≡ k + l + m
widths_two_parts xs ys n k l m e d q = widths_append xs (ys ++ (n ∷ [])) ∙ ap₂ ◌+◌ e (widths_one_part ys n l m d q) ∙ omega arith

pub widths_size : (f : Normal) (b : ℕ) → widths (normal_written b f) ≡ size f
unfolding normal_written size
widths_size top b = widths_one Top
widths_size bottom b = widths_one Bottom
widths_size (fact p) b = widths_one (Fact p)
widths_size (opposed p) b = widths_one (Opposed p)
widths_size (both f g) b = widths_two_parts (normal_written b f) (normal_written (b + normal_forms f) g) (Both (b + normal_forms f - 1) (b + normal_forms f + normal_forms g - 1)) (size f) (size g) 1 (widths_size f b) (widths_size g (b + normal_forms f)) refl
widths_size (either f g) b = widths_two_parts (normal_written b f) (normal_written (b + normal_forms f) g) (Either (b + normal_forms f - 1) (b + normal_forms f + normal_forms g - 1)) (size f) (size g) 1 (widths_size f b) (widths_size g (b + normal_forms f)) refl
widths_size (next I f) b = widths_one_part (normal_written b f) (Next (interval_as I) (b + normal_forms f - 1)) (size f) 5 (widths_size f b) refl
widths_size (dual_next I f) b = widths_one_part (normal_written b f) (DualNext (interval_as I) (b + normal_forms f - 1)) (size f) 5 (widths_size f b) refl
widths_size (until I f g) b = widths_two_parts (normal_written b f) (normal_written (b + normal_forms f) g) (Until (interval_as I) (b + normal_forms f - 1) (b + normal_forms f + normal_forms g - 1)) (size f) (size g) 9 (widths_size f b) (widths_size g (b + normal_forms f)) refl
widths_size (release I f g) b = widths_two_parts (normal_written b f) (normal_written (b + normal_forms f) g) (Release (interval_as I) (b + normal_forms f - 1) (b + normal_forms f + normal_forms g - 1)) (size f) (size g) 9 (widths_size f b) (widths_size g (b + normal_forms f)) refl

-- each entry names earlier ones
normal_below : (f : Normal) (b : ℕ) → All NormalBelow b (normal_written b f)
unfolding normal_written normal_forms
normal_below top b = (tt, tt)
normal_below bottom b = (tt, tt)
normal_below (fact p) b = (tt, tt)
normal_below (opposed p) b = (tt, tt)
normal_below (both f g) b =
    let p = normal_positive f in
    let q = normal_positive g in
    all_append NormalBelow _ _ b _ (length-normal f b) (normal_below f b)
    (all_append NormalBelow _ _ _ _ (length-normal g _) (normal_below g _) ((omega arith, omega arith), tt))
normal_below (either f g) b =
    let p = normal_positive f in
    let q = normal_positive g in
    all_append NormalBelow _ _ b _ (length-normal f b) (normal_below f b)
    (all_append NormalBelow _ _ _ _ (length-normal g _) (normal_below g _) ((omega arith, omega arith), tt))
normal_below (next I f) b = let p = normal_positive f in all_append NormalBelow _ _ b _ (length-normal f b) (normal_below f b) (omega arith, tt)
normal_below (dual_next I f) b = let p = normal_positive f in all_append NormalBelow _ _ b _ (length-normal f b) (normal_below f b) (omega arith, tt)
normal_below (until I f g) b =
    let p = normal_positive f in
    let q = normal_positive g in
    all_append NormalBelow _ _ b _ (length-normal f b) (normal_below f b)
    (all_append NormalBelow _ _ _ _ (length-normal g _) (normal_below g _) ((omega arith, omega arith), tt))
normal_below (release I f g) b =
    let p = normal_positive f in
    let q = normal_positive g in
    all_append NormalBelow _ _ b _ (length-normal f b) (normal_below f b)
    (all_append NormalBelow _ _ _ _ (length-normal g _) (normal_below g _) ((omega arith, omega arith), tt))

pub written_earlier : (f : Normal) → EarlierNormals (normal_written 0 f)
written_earlier f i p = rw zero-add at (all_at NormalBelow (normal_written 0 f) 0 Top (normal_below f 0) i p)

-- the whole pass
pub pass_cells : (f : Normal) (r : ℕ) → (written_on (started r) (normal_written 0 f)).cells ++ (cell_reset (size f - 1) ∷ []) ≡ table f
pass_cells f r = ap (λ (B : Built). B.cells ++ (cell_reset (size f - 1) ∷ [])) (whole f (started r) 0 0 0 (record { roots = refl; cells = refl; entries = refl }))

pub pass_entries : (f : Normal) → (written_on (started (size f)) (normal_written 0 f)).entries ≡ entries f
pass_entries f = ap (λ (B : Built). B.entries) (whole f (started (size f)) 0 0 0 (record { roots = refl; cells = refl; entries = refl }))
