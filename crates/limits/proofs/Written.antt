-- The table that a form is written into: what it stands for, and the tests of its intervals.
use Rattle.std.proofs.Common.{◌≡◌, ℕ, ◌+◌, ◌-◌, max, Bool, true, false, ◌&&◌, leb, List, [], ◌∷◌, ◌++◌, length, sym, refl, ap, ◌∙◌, ap₂, inl, inr, append_assoc, zero-add, arith, length-append}
use Rattle.std.proofs.lemmas.Bool.{and_parts, cases_lt, le-leb, lt-leb, leb-true}
use Rattle.semantics.specs.Forms.{Upper, none, upto, Interval, Form, top, bottom, fact, opposite, both, either, implies, next, dual_next, eventually, always, until, release, forms}
use Rattle.semantics.proofs.Indexed.{All, all_append, all_at}
use Rattle.tables.specs.Intervals.{interval_of}
use Rattle.tables.specs.Sources.{form_at, form_of, forms_onto, forms_from}
use Rattle.tables.specs.declared.node.Node.{Node}
use Rattle.tables.specs.declared.node.Node.TheVariants.{Top, Bottom, Fact, Opposite, Both, Either, Implies, Next, DualNext, Eventually, Always, Until, Release}
use Rattle.grammar.specs.Runs.{cap, kept}
use Rattle.reader.specs.Tables.{written}
use Rattle.reader.proofs.Growth.{forms_positive, length-written}
use Rattle.limits.specs.Parts.{node_parts, Below, Earlier, every_node}
use Rattle.limits.specs.Limits.{depth, every, small, proper}
use Rattle.limits.specs.Order.{ended}
use Rattle.limits.proofs.Onto.{Last, last_at, onto_behind, onto_behind_two}
use Rattle.limits.proofs.Tested.{every_append, every_one}

-- an interval as the table has it
abbrev held : Interval → Interval
held I = interval_of (kept I)

-- a form as the table has it: each number above a thousand million is one more than that
unfoldable pub capped : Form → Form
capped top = top
capped bottom = bottom
capped (fact p) = fact p
capped (opposite f) = opposite (capped f)
capped (next I f) = next (held I) (capped f)
capped (dual_next I f) = dual_next (held I) (capped f)
capped (eventually I f) = eventually (held I) (capped f)
capped (always I f) = always (held I) (capped f)
capped (both f g) = both (capped f) (capped g)
capped (either f g) = either (capped f) (capped g)
capped (implies f g) = implies (capped f) (capped g)
capped (until I f g) = until (held I) (capped f) (capped g)
capped (release I f g) = release (held I) (capped f) (capped g)

pub forms_capped : (f : Form) → forms (capped f) ≡ forms f
unfolding forms capped
forms_capped top = refl
forms_capped bottom = refl
forms_capped (fact p) = refl
forms_capped (opposite f) = ap (λ n. n + 1) (forms_capped f)
forms_capped (next I f) = ap (λ n. n + 1) (forms_capped f)
forms_capped (dual_next I f) = ap (λ n. n + 1) (forms_capped f)
forms_capped (eventually I f) = ap (λ n. n + 1) (forms_capped f)
forms_capped (always I f) = ap (λ n. n + 1) (forms_capped f)
forms_capped (both f g) = ap₂ (λ m n. m + n + 1) (forms_capped f) (forms_capped g)
forms_capped (either f g) = ap₂ (λ m n. m + n + 1) (forms_capped f) (forms_capped g)
forms_capped (implies f g) = ap₂ (λ m n. m + n + 1) (forms_capped f) (forms_capped g)
forms_capped (until I f g) = ap₂ (λ m n. m + n + 1) (forms_capped f) (forms_capped g)
forms_capped (release I f g) = ap₂ (λ m n. m + n + 1) (forms_capped f) (forms_capped g)

pub depth_capped : (f : Form) → depth (capped f) ≡ depth f
unfolding depth capped
depth_capped top = refl
depth_capped bottom = refl
depth_capped (fact p) = refl
depth_capped (opposite f) = ap (λ n. n + 1) (depth_capped f)
depth_capped (next I f) = ap (λ n. n + 1) (depth_capped f)
depth_capped (dual_next I f) = ap (λ n. n + 1) (depth_capped f)
depth_capped (eventually I f) = ap (λ n. n + 1) (depth_capped f)
depth_capped (always I f) = ap (λ n. n + 1) (depth_capped f)
depth_capped (both f g) = ap₂ (λ m n. max m n + 1) (depth_capped f) (depth_capped g)
depth_capped (either f g) = ap₂ (λ m n. max m n + 1) (depth_capped f) (depth_capped g)
depth_capped (implies f g) = ap₂ (λ m n. max m n + 1) (depth_capped f) (depth_capped g)
depth_capped (until I f g) = ap₂ (λ m n. max m n + 1) (depth_capped f) (depth_capped g)
depth_capped (release I f g) = ap₂ (λ m n. max m n + 1) (depth_capped f) (depth_capped g)

pub length-ended : (f : Form) → length (ended f) ≡ forms f
unfolding forms ended
length-ended top = refl
length-ended bottom = refl
length-ended (fact p) = refl
length-ended (opposite f) = simp (length-append, length-ended f)
length-ended (next I f) = simp (length-append, length-ended f)
length-ended (dual_next I f) = simp (length-append, length-ended f)
length-ended (eventually I f) = simp (length-append, length-ended f)
length-ended (always I f) = simp (length-append, length-ended f)
length-ended (both f g) = simp (length-append, length-ended f, length-ended g) (omega arith)
length-ended (either f g) = simp (length-append, length-ended f, length-ended g) (omega arith)
length-ended (implies f g) = simp (length-append, length-ended f, length-ended g) (omega arith)
length-ended (until I f g) = simp (length-append, length-ended f, length-ended g) (omega arith)
length-ended (release I f g) = simp (length-append, length-ended f, length-ended g) (omega arith)

front_two : (fs gs : List Form) (h : Form) → (front : List Form) × (fs ++ (gs ++ (h ∷ [])) ≡ front ++ (h ∷ []))
front_two fs gs h = (fs ++ gs, sym (append_assoc fs gs (h ∷ [])))

front_of : (f : Form) → (front : List Form) × (ended f ≡ front ++ (f ∷ []))
unfolding ended
front_of top = ([], refl)
front_of bottom = ([], refl)
front_of (fact p) = ([], refl)
front_of (opposite f) = (ended f, refl)
front_of (next I f) = (ended f, refl)
front_of (dual_next I f) = (ended f, refl)
front_of (eventually I f) = (ended f, refl)
front_of (always I f) = (ended f, refl)
front_of (both f g) = front_two (ended f) (ended g) (both f g)
front_of (either f g) = front_two (ended f) (ended g) (either f g)
front_of (implies f g) = front_two (ended f) (ended g) (implies f g)
front_of (until I f g) = front_two (ended f) (ended g) (until I f g)
front_of (release I f g) = front_two (ended f) (ended g) (release I f g)

pub ended_last : (f : Form) → Last (ended f) f (forms f)
ended_last f = record { front = (front_of f).0; is = (front_of f).1; count = length-ended f }

capped_last : (f : Form) → Last (ended (capped f)) (capped f) (forms f)
capped_last f = record { front = (front_of (capped f)).0; is = (front_of (capped f)).1; count = length-ended (capped f) ∙ forms_capped f }

onto_none : (fs : List Form) → forms_onto fs [] ≡ fs
unfolding forms_onto
onto_none fs = refl

onto_more : (fs : List Form) (n : Node) (ns : List Node) → forms_onto fs (n ∷ ns) ≡ forms_onto (fs ++ (form_of fs n ∷ [])) ns
unfolding forms_onto
onto_more fs n ns = refl

onto_one : (fs : List Form) (n : Node) → forms_onto fs (n ∷ []) ≡ fs ++ (form_of fs n ∷ [])
unfolding forms_onto
onto_one fs n = refl

one_part : (fs : List Form) (xs : List Node) (f h : Form) (n : Node) (b : ℕ) → length fs ≡ b → forms_onto fs xs ≡ fs ++ ended (capped f) →
    ((gs : List Form) → form_at gs (b + forms f - 1) ≡ capped f → form_of gs n ≡ h) → forms_onto fs (xs ++ (n ∷ [])) ≡ fs ++ (ended (capped f) ++ (h ∷ []))
one_part fs xs f h n b e = onto_behind top form_of forms_onto onto_none onto_more fs xs (ended (capped f)) (capped f) h n b (forms f) e (capped_last f)

two_parts : (fs : List Form) (xs ys : List Node) (f g h : Form) (n : Node) (b : ℕ) → length fs ≡ b → forms_onto fs xs ≡ fs ++ ended (capped f) →
    forms_onto (fs ++ ended (capped f)) ys ≡ (fs ++ ended (capped f)) ++ ended (capped g) →
    ((gs : List Form) → form_at gs (b + forms f - 1) ≡ capped f → form_at gs (b + forms f + forms g - 1) ≡ capped g → form_of gs n ≡ h) →
    forms_onto fs (xs ++ (ys ++ (n ∷ []))) ≡ fs ++ (ended (capped f) ++ (ended (capped g) ++ (h ∷ [])))
two_parts fs xs ys f g h n b e = onto_behind_two top form_of forms_onto onto_none onto_more fs xs ys (ended (capped f)) (ended (capped g)) (capped f) (capped g) h n b (forms f) (forms g) e (capped_last f) (capped_last g) (forms_positive f)

after : (fs : List Form) (b : ℕ) (f : Form) → length fs ≡ b → length (fs ++ ended (capped f)) ≡ b + forms f
after fs b f e = length-append fs (ended (capped f)) ∙ omega (arith, length-ended (capped f), forms_capped f)

-- the table stands for the form and all inside it, in order
pub decoded : (f : Form) (fs : List Form) (b : ℕ) → length fs ≡ b → forms_onto fs (written b f) ≡ fs ++ ended (capped f)
unfolding written capped ended
decoded top fs b e = onto_one fs Top
decoded bottom fs b e = onto_one fs Bottom
decoded (fact p) fs b e = onto_one fs (Fact p)
decoded (opposite f) fs b e = one_part fs (written b f) f _ (Opposite (b + forms f - 1)) b e (decoded f fs b e) (λ gs q. ap opposite q)
decoded (next I f) fs b e = one_part fs (written b f) f _ (Next (kept I) (b + forms f - 1)) b e (decoded f fs b e) (λ gs q. ap (next (held I)) q)
decoded (dual_next I f) fs b e = one_part fs (written b f) f _ (DualNext (kept I) (b + forms f - 1)) b e (decoded f fs b e) (λ gs q. ap (dual_next (held I)) q)
decoded (eventually I f) fs b e = one_part fs (written b f) f _ (Eventually (kept I) (b + forms f - 1)) b e (decoded f fs b e) (λ gs q. ap (eventually (held I)) q)
decoded (always I f) fs b e = one_part fs (written b f) f _ (Always (kept I) (b + forms f - 1)) b e (decoded f fs b e) (λ gs q. ap (always (held I)) q)
decoded (both f g) fs b e = two_parts fs (written b f) (written (b + forms f) g) f g _ (Both (b + forms f - 1) (b + forms f + forms g - 1)) b e (decoded f fs b e) (decoded g (fs ++ ended (capped f)) (b + forms f) (after fs b f e)) (λ gs q r. ap₂ both q r)
decoded (either f g) fs b e = two_parts fs (written b f) (written (b + forms f) g) f g _ (Either (b + forms f - 1) (b + forms f + forms g - 1)) b e (decoded f fs b e) (decoded g (fs ++ ended (capped f)) (b + forms f) (after fs b f e)) (λ gs q r. ap₂ either q r)
decoded (implies f g) fs b e = two_parts fs (written b f) (written (b + forms f) g) f g _ (Implies (b + forms f - 1) (b + forms f + forms g - 1)) b e (decoded f fs b e) (decoded g (fs ++ ended (capped f)) (b + forms f) (after fs b f e)) (λ gs q r. ap₂ implies q r)
decoded (until I f g) fs b e = two_parts fs (written b f) (written (b + forms f) g) f g _ (Until (kept I) (b + forms f - 1) (b + forms f + forms g - 1)) b e (decoded f fs b e) (decoded g (fs ++ ended (capped f)) (b + forms f) (after fs b f e)) (λ gs q r. ap₂ (until (held I)) q r)
decoded (release I f g) fs b e = two_parts fs (written b f) (written (b + forms f) g) f g _ (Release (kept I) (b + forms f - 1) (b + forms f + forms g - 1)) b e (decoded f fs b e) (decoded g (fs ++ ended (capped f)) (b + forms f) (after fs b f e)) (λ gs q r. ap₂ (release (held I)) q r)

pub forms_written : (f : Form) → forms_from (written 0 f) ≡ ended (capped f)
forms_written f = decoded f [] 0 refl

pub root_written : (f : Form) → form_at (forms_from (written 0 f)) (forms f - 1) ≡ capped f
root_written f = ap (λ gs. form_at gs (forms f - 1)) (forms_written f) ∙ ap (λ k. form_at (ended (capped f)) (k - 1)) (sym (zero-add (forms f))) ∙
    last_at top [] (ended (capped f)) (capped f) 0 (forms f) refl (capped_last f)

-- each entry names earlier ones
abbrev Behind : ℕ → Node → Type 0
Behind c n = Below c (node_parts n)

written_below : (f : Form) (b : ℕ) → All Behind b (written b f)
unfolding written forms
written_below top b = (tt, tt)
written_below bottom b = (tt, tt)
written_below (fact p) b = (tt, tt)
written_below (opposite f) b = let p = forms_positive f in all_append Behind _ _ b _ (length-written f b) (written_below f b) (omega arith, tt)
written_below (next I f) b = let p = forms_positive f in all_append Behind _ _ b _ (length-written f b) (written_below f b) (omega arith, tt)
written_below (dual_next I f) b = let p = forms_positive f in all_append Behind _ _ b _ (length-written f b) (written_below f b) (omega arith, tt)
written_below (eventually I f) b = let p = forms_positive f in all_append Behind _ _ b _ (length-written f b) (written_below f b) (omega arith, tt)
written_below (always I f) b = let p = forms_positive f in all_append Behind _ _ b _ (length-written f b) (written_below f b) (omega arith, tt)
written_below (both f g) b =
    let p = forms_positive f in
    let q = forms_positive g in
    all_append Behind _ _ b _ (length-written f b) (written_below f b)
    (all_append Behind _ _ _ _ (length-written g _) (written_below g _) ((omega arith, omega arith), tt))
written_below (either f g) b =
    let p = forms_positive f in
    let q = forms_positive g in
    all_append Behind _ _ b _ (length-written f b) (written_below f b)
    (all_append Behind _ _ _ _ (length-written g _) (written_below g _) ((omega arith, omega arith), tt))
written_below (implies f g) b =
    let p = forms_positive f in
    let q = forms_positive g in
    all_append Behind _ _ b _ (length-written f b) (written_below f b)
    (all_append Behind _ _ _ _ (length-written g _) (written_below g _) ((omega arith, omega arith), tt))
written_below (until I f g) b =
    let p = forms_positive f in
    let q = forms_positive g in
    all_append Behind _ _ b _ (length-written f b) (written_below f b)
    (all_append Behind _ _ _ _ (length-written g _) (written_below g _) ((omega arith, omega arith), tt))
written_below (release I f g) b =
    let p = forms_positive f in
    let q = forms_positive g in
    all_append Behind _ _ b _ (length-written f b) (written_below f b)
    (all_append Behind _ _ _ _ (length-written g _) (written_below g _) ((omega arith, omega arith), tt))

pub written_earlier : (f : Form) → Earlier (written 0 f)
written_earlier f i p = rw zero-add at (all_at Behind (written 0 f) 0 Top (written_below f 0) i p)

-- a test of the intervals
module _ (p : Interval → Bool) where
  one_tested : (xs : List Node) (n : Node) (a b : Bool) → every_node p xs ≡ a → every_node p (n ∷ []) ≡ b → every_node p (xs ++ (n ∷ [])) ≡ (a && b)
  one_tested xs n a b e q = every_append p xs (n ∷ []) ∙ ap₂ ◌&&◌ e q

  two_tested : (xs ys : List Node) (n : Node) (a b c : Bool) → every_node p xs ≡ a → every_node p ys ≡ b → every_node p (n ∷ []) ≡ c → every_node p (xs ++ (ys ++ (n ∷ []))) ≡ (a && (b && c))
  two_tested xs ys n a b c e q r = every_append p xs (ys ++ (n ∷ [])) ∙ ap₂ ◌&&◌ e (one_tested ys n b c q r)

  and_true : (b : Bool) → (b && true) ≡ b
  and_true true = refl
  and_true false = refl

  pub every_written : (f : Form) (b : ℕ) → every_node p (written b f) ≡ every (λ I. p (held I)) f
  unfolding written every every_node
  every_written top b = refl
  every_written bottom b = refl
  every_written (fact p) b = refl
  every_written (opposite f) b = one_tested (written b f) (Opposite (b + forms f - 1)) (every (λ I. p (held I)) f) true (every_written f b) refl ∙ and_true (every (λ I. p (held I)) f)
  every_written (next I f) b = one_tested (written b f) (Next (kept I) (b + forms f - 1)) (every (λ I. p (held I)) f) (p (held I)) (every_written f b) (every_one p (Next (kept I) (b + forms f - 1)))
  every_written (dual_next I f) b = one_tested (written b f) (DualNext (kept I) (b + forms f - 1)) (every (λ I. p (held I)) f) (p (held I)) (every_written f b) (every_one p (DualNext (kept I) (b + forms f - 1)))
  every_written (eventually I f) b = one_tested (written b f) (Eventually (kept I) (b + forms f - 1)) (every (λ I. p (held I)) f) (p (held I)) (every_written f b) (every_one p (Eventually (kept I) (b + forms f - 1)))
  every_written (always I f) b = one_tested (written b f) (Always (kept I) (b + forms f - 1)) (every (λ I. p (held I)) f) (p (held I)) (every_written f b) (every_one p (Always (kept I) (b + forms f - 1)))
  every_written (both f g) b = two_tested (written b f) (written (b + forms f) g) (Both (b + forms f - 1) (b + forms f + forms g - 1)) (every (λ I. p (held I)) f) (every (λ I. p (held I)) g) true (every_written f b) (every_written g (b + forms f)) refl ∙ ap (λ x. every (λ I. p (held I)) f && x) (and_true (every (λ I. p (held I)) g))
  every_written (either f g) b = two_tested (written b f) (written (b + forms f) g) (Either (b + forms f - 1) (b + forms f + forms g - 1)) (every (λ I. p (held I)) f) (every (λ I. p (held I)) g) true (every_written f b) (every_written g (b + forms f)) refl ∙ ap (λ x. every (λ I. p (held I)) f && x) (and_true (every (λ I. p (held I)) g))
  every_written (implies f g) b = two_tested (written b f) (written (b + forms f) g) (Implies (b + forms f - 1) (b + forms f + forms g - 1)) (every (λ I. p (held I)) f) (every (λ I. p (held I)) g) true (every_written f b) (every_written g (b + forms f)) refl ∙ ap (λ x. every (λ I. p (held I)) f && x) (and_true (every (λ I. p (held I)) g))
  every_written (until I f g) b = two_tested (written b f) (written (b + forms f) g) (Until (kept I) (b + forms f - 1) (b + forms f + forms g - 1)) (every (λ I. p (held I)) f) (every (λ I. p (held I)) g) (p (held I)) (every_written f b) (every_written g (b + forms f)) (every_one p (Until (kept I) (b + forms f - 1) (b + forms f + forms g - 1)))
  every_written (release I f g) b = two_tested (written b f) (written (b + forms f) g) (Release (kept I) (b + forms f - 1) (b + forms f + forms g - 1)) (every (λ I. p (held I)) f) (every (λ I. p (held I)) g) (p (held I)) (every_written f b) (every_written g (b + forms f)) (every_one p (Release (kept I) (b + forms f - 1) (b + forms f + forms g - 1)))

cap_tested : (n : ℕ) → leb (cap n) 1000000000 ≡ leb n 1000000000
cap_tested n = elim (cases_lt 1000000000 n) [
  | inl h ↦ lt-leb (cap n) 1000000000 (omega arith) ∙ sym (lt-leb n 1000000000 h)
  | inr h ↦ le-leb (cap n) 1000000000 (omega arith) ∙ sym (le-leb n 1000000000 h)
]

held_small : (l : ℕ) (u : Upper) → small (held (record { lower = l; upper = u })) ≡ small (record { lower = l; upper = u })
held_small l none = ap (λ b. b && true) (cap_tested l)
held_small l (upto n) = ap₂ ◌&&◌ (cap_tested l) (cap_tested n)

pub small_written : (f : Form) → every_node small (written 0 f) ≡ every small f
small_written f = every_written small f 0 ∙ ap (λ p. every p f) (λ i I. held_small I.lower I.upper i)

cap_same : (n : ℕ) → leb n 1000000000 ≡ true → cap n ≡ n
cap_same n h = omega (arith, leb-true n 1000000000 h)

held_parts : (l : ℕ) (u : Upper) → small (record { lower = l; upper = u }) ≡ true → held (record { lower = l; upper = u }) ≡ record { lower = l; upper = u }
held_parts l none h = λ i. record { lower = cap_same l (and_parts _ _ h).0 i; upper = none }
held_parts l (upto n) h = λ i. record { lower = cap_same l (and_parts _ _ h).0 i; upper = upto (cap_same n (and_parts _ _ h).1 i) }

held_same : (I : Interval) → small I ≡ true → held I ≡ I
held_same I h = held_parts I.lower I.upper h

-- where no number is too large, the table has the form as it is
pub capped_same : (f : Form) → every small f ≡ true → capped f ≡ f
unfolding capped every
capped_same top h = refl
capped_same bottom h = refl
capped_same (fact p) h = refl
capped_same (opposite f) h = ap opposite (capped_same f h)
capped_same (next I f) h = let q = and_parts _ _ h in ap₂ next (held_same I q.1) (capped_same f q.0)
capped_same (dual_next I f) h = let q = and_parts _ _ h in ap₂ dual_next (held_same I q.1) (capped_same f q.0)
capped_same (eventually I f) h = let q = and_parts _ _ h in ap₂ eventually (held_same I q.1) (capped_same f q.0)
capped_same (always I f) h = let q = and_parts _ _ h in ap₂ always (held_same I q.1) (capped_same f q.0)
capped_same (both f g) h = let q = and_parts _ _ h in ap₂ both (capped_same f q.0) (capped_same g q.1)
capped_same (either f g) h = let q = and_parts _ _ h in ap₂ either (capped_same f q.0) (capped_same g q.1)
capped_same (implies f g) h = let q = and_parts _ _ h in ap₂ implies (capped_same f q.0) (capped_same g q.1)
capped_same (until I f g) h =
    let q = and_parts _ _ h in
    let r = and_parts _ _ q.1 in
    (λ i. until (held_same I r.1 i) (capped_same f q.0 i) (capped_same g r.0 i))
capped_same (release I f g) h =
    let q = and_parts _ _ h in
    let r = and_parts _ _ q.1 in
    (λ i. release (held_same I r.1 i) (capped_same f q.0 i) (capped_same g r.0 i))

every_capped : (p : Interval → Bool) (f : Form) → every (λ I. p (held I)) f ≡ every p (capped f)
unfolding capped every
every_capped p top = refl
every_capped p bottom = refl
every_capped p (fact q) = refl
every_capped p (opposite f) = every_capped p f
every_capped p (next I f) = ap (λ b. b && p (held I)) (every_capped p f)
every_capped p (dual_next I f) = ap (λ b. b && p (held I)) (every_capped p f)
every_capped p (eventually I f) = ap (λ b. b && p (held I)) (every_capped p f)
every_capped p (always I f) = ap (λ b. b && p (held I)) (every_capped p f)
every_capped p (both f g) = ap₂ ◌&&◌ (every_capped p f) (every_capped p g)
every_capped p (either f g) = ap₂ ◌&&◌ (every_capped p f) (every_capped p g)
every_capped p (implies f g) = ap₂ ◌&&◌ (every_capped p f) (every_capped p g)
every_capped p (until I f g) = ap₂ (λ a b. a && (b && p (held I))) (every_capped p f) (every_capped p g)
every_capped p (release I f g) = ap₂ (λ a b. a && (b && p (held I))) (every_capped p f) (every_capped p g)

pub proper_written : (f : Form) → every small f ≡ true → every_node proper (written 0 f) ≡ every proper f
proper_written f h = every_written proper f 0 ∙ every_capped proper f ∙ ap (every proper) (capped_same f h)

pub root_as_read : (f : Form) → every small f ≡ true → form_at (forms_from (written 0 f)) (forms f - 1) ≡ f
root_as_read f h = root_written f ∙ capped_same f h

pub depth_as_read : (f : Form) → depth (form_at (forms_from (written 0 f)) (forms f - 1)) ≡ depth f
depth_as_read f = ap depth (root_written f) ∙ depth_capped f
