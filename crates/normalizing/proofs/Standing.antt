-- The table of a normal form stands for it and for all inside it.
use Rattle.std.proofs.Common.{◌≡◌, ℕ, ◌+◌, ◌-◌, List, [], ◌∷◌, ◌++◌, length, sym, refl, ap, ◌∙◌, ap₂, append_assoc, zero-add, arith, length-append}
use Rattle.semantics.specs.Forms as meaning
use Rattle.semantics.specs.Normals.{Normal, top, bottom, fact, opposed, both, either, next, dual_next, until, release, normal_forms}
use Rattle.tables.specs.Intervals.{interval_of}
use Rattle.tables.specs.NormalTables.{normal_at, normal_of, normals_onto, normals_from}
use Rattle.tables.specs.declared.normal_node.NormalNode.{NormalNode}
use Rattle.tables.specs.declared.normal_node.NormalNode.TheVariants.{Top, Bottom, Fact, Opposed, Both, Either, Next, DualNext, Until, Release}
use Rattle.limits.proofs.Onto.{Last, last_at, onto_behind, onto_behind_two}
use Rattle.normalizing.specs.NormalWritten.{interval_as, normal_written, normals_ended}
use Rattle.normalizing.proofs.Making.{normal_positive}

back_parts : (l : ℕ) (u : meaning.Upper) → interval_of (interval_as (record { lower = l; upper = u })) ≡ record { lower = l; upper = u }
back_parts l meaning.Upper.none = refl
back_parts l (meaning.Upper.upto n) = refl

-- an interval as an entry has it stands for itself
pub interval_back : (I : meaning.Interval) → interval_of (interval_as I) ≡ I
interval_back I = back_parts I.lower I.upper

length-ended : (f : Normal) → length (normals_ended f) ≡ normal_forms f
unfolding normal_forms normals_ended
length-ended top = refl
length-ended bottom = refl
length-ended (fact p) = refl
length-ended (opposed p) = refl
length-ended (both f g) = simp (length-append, length-ended f, length-ended g) (omega arith)
length-ended (either f g) = simp (length-append, length-ended f, length-ended g) (omega arith)
length-ended (next I f) = simp (length-append, length-ended f)
length-ended (dual_next I f) = simp (length-append, length-ended f)
length-ended (until I f g) = simp (length-append, length-ended f, length-ended g) (omega arith)
length-ended (release I f g) = simp (length-append, length-ended f, length-ended g) (omega arith)

front_two : (fs gs : List Normal) (h : Normal) → (front : List Normal) × (fs ++ (gs ++ (h ∷ [])) ≡ front ++ (h ∷ []))
front_two fs gs h = (fs ++ gs, sym (append_assoc fs gs (h ∷ [])))

front_of : (f : Normal) → (front : List Normal) × (normals_ended f ≡ front ++ (f ∷ []))
unfolding normals_ended
front_of top = ([], refl)
front_of bottom = ([], refl)
front_of (fact p) = ([], refl)
front_of (opposed p) = ([], refl)
front_of (both f g) = front_two (normals_ended f) (normals_ended g) (both f g)
front_of (either f g) = front_two (normals_ended f) (normals_ended g) (either f g)
front_of (next I f) = (normals_ended f, refl)
front_of (dual_next I f) = (normals_ended f, refl)
front_of (until I f g) = front_two (normals_ended f) (normals_ended g) (until I f g)
front_of (release I f g) = front_two (normals_ended f) (normals_ended g) (release I f g)

ended_last : (f : Normal) → Last (normals_ended f) f (normal_forms f)
ended_last f = record { front = (front_of f).0; is = (front_of f).1; count = length-ended f }

onto_none : (fs : List Normal) → normals_onto fs [] ≡ fs
unfolding normals_onto
onto_none fs = refl

onto_more : (fs : List Normal) (n : NormalNode) (ns : List NormalNode) → normals_onto fs (n ∷ ns) ≡ normals_onto (fs ++ (normal_of fs n ∷ [])) ns
unfolding normals_onto
onto_more fs n ns = refl

onto_one : (fs : List Normal) (n : NormalNode) → normals_onto fs (n ∷ []) ≡ fs ++ (normal_of fs n ∷ [])
unfolding normals_onto
onto_one fs n = refl

one_part : (fs : List Normal) (b : ℕ) (f h : Normal) (n : NormalNode) → length fs ≡ b → normals_onto fs (normal_written b f) ≡ fs ++ normals_ended f →
    ((gs : List Normal) → normal_at gs (b + normal_forms f - 1) ≡ f → normal_of gs n ≡ h) → normals_onto fs (normal_written b f ++ (n ∷ [])) ≡ fs ++ (normals_ended f ++ (h ∷ []))
one_part fs b f h n e = onto_behind top normal_of normals_onto onto_none onto_more fs (normal_written b f) (normals_ended f) f h n b (normal_forms f) e (ended_last f)

two_parts : (fs : List Normal) (b : ℕ) (f g h : Normal) (n : NormalNode) → length fs ≡ b → normals_onto fs (normal_written b f) ≡ fs ++ normals_ended f →
    normals_onto (fs ++ normals_ended f) (normal_written (b + normal_forms f) g) ≡ (fs ++ normals_ended f) ++ normals_ended g →
    ((gs : List Normal) → normal_at gs (b + normal_forms f - 1) ≡ f → normal_at gs (b + normal_forms f + normal_forms g - 1) ≡ g → normal_of gs n ≡ h) →
    normals_onto fs (normal_written b f ++ (normal_written (b + normal_forms f) g ++ (n ∷ []))) ≡ fs ++ (normals_ended f ++ (normals_ended g ++ (h ∷ [])))
two_parts fs b f g h n e = onto_behind_two top normal_of normals_onto onto_none onto_more fs (normal_written b f) (normal_written (b + normal_forms f) g) (normals_ended f) (normals_ended g) f g h n b (normal_forms f) (normal_forms g) e (ended_last f) (ended_last g) (normal_positive f)

after : (fs : List Normal) (b : ℕ) (f : Normal) → length fs ≡ b → length (fs ++ normals_ended f) ≡ b + normal_forms f
after fs b f e = length-append fs (normals_ended f) ∙ omega (arith, length-ended f)

stands : (f : Normal) (fs : List Normal) (b : ℕ) → length fs ≡ b → normals_onto fs (normal_written b f) ≡ fs ++ normals_ended f
unfolding normal_written normals_ended
stands top fs b e = onto_one fs Top
stands bottom fs b e = onto_one fs Bottom
stands (fact p) fs b e = onto_one fs (Fact p)
stands (opposed p) fs b e = onto_one fs (Opposed p)
stands (both f g) fs b e = two_parts fs b f g (both f g) (Both (b + normal_forms f - 1) (b + normal_forms f + normal_forms g - 1)) e (stands f fs b e) (stands g (fs ++ normals_ended f) (b + normal_forms f) (after fs b f e)) (λ gs q r. ap₂ both q r)
stands (either f g) fs b e = two_parts fs b f g (either f g) (Either (b + normal_forms f - 1) (b + normal_forms f + normal_forms g - 1)) e (stands f fs b e) (stands g (fs ++ normals_ended f) (b + normal_forms f) (after fs b f e)) (λ gs q r. ap₂ either q r)
stands (next I f) fs b e = one_part fs b f (next I f) (Next (interval_as I) (b + normal_forms f - 1)) e (stands f fs b e) (λ gs q. ap₂ next (interval_back I) q)
stands (dual_next I f) fs b e = one_part fs b f (dual_next I f) (DualNext (interval_as I) (b + normal_forms f - 1)) e (stands f fs b e) (λ gs q. ap₂ dual_next (interval_back I) q)
stands (until I f g) fs b e = two_parts fs b f g (until I f g) (Until (interval_as I) (b + normal_forms f - 1) (b + normal_forms f + normal_forms g - 1)) e (stands f fs b e) (stands g (fs ++ normals_ended f) (b + normal_forms f) (after fs b f e)) (λ gs q r t. until (interval_back I t) (q t) (r t))
stands (release I f g) fs b e = two_parts fs b f g (release I f g) (Release (interval_as I) (b + normal_forms f - 1) (b + normal_forms f + normal_forms g - 1)) e (stands f fs b e) (stands g (fs ++ normals_ended f) (b + normal_forms f) (after fs b f e)) (λ gs q r t. release (interval_back I t) (q t) (r t))

pub normals_written : (f : Normal) → normals_from (normal_written 0 f) ≡ normals_ended f
normals_written f = stands f [] 0 refl

pub root_written : (f : Normal) → normal_at (normals_from (normal_written 0 f)) (normal_forms f - 1) ≡ f
root_written f = ap (λ gs. normal_at gs (normal_forms f - 1)) (normals_written f) ∙ ap (λ k. normal_at (normals_ended f) (k - 1)) (sym (zero-add (normal_forms f))) ∙
    last_at top [] (normals_ended f) f 0 (normal_forms f) refl (ended_last f)
