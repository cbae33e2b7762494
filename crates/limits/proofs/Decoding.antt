-- What a table stands for, entry by entry.
use Rattle.std.proofs.Common.{◌≡◌, ℕ, suc, ◌+◌, ◌<◌, max, List, [], ◌∷◌, ◌++◌, length, get_or, sym, refl, ap, ◌∙◌, ap₂, zero-add, arith, length-append}
use lib.ListN.{get_or-append}
use lib.Seq.{get_or-append_seam}
use Rattle.semantics.specs.Forms.{Form, opposite, both, either, implies, next, dual_next, eventually, always, until, release}
use Rattle.semantics.proofs.Indexed.{All, all_of, all_at}
use Rattle.tables.specs.Intervals.{interval_of}
use Rattle.tables.specs.Sources.{form_at, form_of, forms_onto, forms_from}
use Rattle.tables.specs.declared.node.Node.{Node}
use Rattle.tables.specs.declared.node.Node.TheVariants.{Top, Bottom, Fact, Opposite, Both, Either, Implies, Next, DualNext, Eventually, Always, Until, Release}
use Rattle.limits.specs.declared.parts.Parts.{Parts}
use Rattle.limits.specs.declared.parts.Parts.TheVariants.{Nothing, One, Two}
use Rattle.limits.specs.Parts.{node_parts, Below, Earlier}
use Rattle.limits.specs.Limits.{depth}

-- what is written stays
forms_keep : (ns : List Node) (fs : List Form) (i : ℕ) → i < length fs → form_at (forms_onto fs ns) i ≡ form_at fs i
unfolding forms_onto
forms_keep [] fs i p = refl
forms_keep (n ∷ ns) fs i p = forms_keep ns _ i (simp length-append (omega arith)) ∙ get_or-append fs _ Form.top i p

-- lists that agree below c give an entry that names only those the same form
form_same : (c : ℕ) (fs gs : List Form) → ((i : ℕ) → i < c → form_at fs i ≡ form_at gs i) →
    (n : Node) → Below c (node_parts n) → form_of fs n ≡ form_of gs n
form_same c fs gs h Top p = refl
form_same c fs gs h Bottom p = refl
form_same c fs gs h (Fact a) p = refl
form_same c fs gs h (Opposite i) p = ap opposite (h i p)
form_same c fs gs h (Both i j) p = ap₂ both (h i p.0) (h j p.1)
form_same c fs gs h (Either i j) p = ap₂ either (h i p.0) (h j p.1)
form_same c fs gs h (Implies i j) p = ap₂ implies (h i p.0) (h j p.1)
form_same c fs gs h (Next I i) p = ap (next (interval_of I)) (h i p)
form_same c fs gs h (DualNext I i) p = ap (dual_next (interval_of I)) (h i p)
form_same c fs gs h (Eventually I i) p = ap (eventually (interval_of I)) (h i p)
form_same c fs gs h (Always I i) p = ap (always (interval_of I)) (h i p)
form_same c fs gs h (Until I i j) p = ap₂ (until (interval_of I)) (h i p.0) (h j p.1)
form_same c fs gs h (Release I i j) p = ap₂ (release (interval_of I)) (h i p.0) (h j p.1)

-- place c of T has the form of node n
abbrev Stands : List Form → ℕ → Node → Type 0
Stands T c n = form_at T c ≡ form_of T n

forms_stand : (ns : List Node) (fs : List Form) (c : ℕ) → length fs ≡ c → All (λ i n. Below i (node_parts n)) c ns → All (Stands (forms_onto fs ns)) c ns
unfolding forms_onto
forms_stand [] fs c e h = tt
forms_stand (n ∷ ns) fs c e h =
    let gs = fs ++ (form_of fs n ∷ []) in
    let T = forms_onto gs ns in
    let more : length gs ≡ suc c = simp length-append (omega arith) in
    let here : form_at gs c ≡ form_of fs n = rw (← e) (get_or-append_seam fs _ [] Form.top) in
    let kept : (j : ℕ) → j < c → form_at fs j ≡ form_at T j =
    λ j q. sym (forms_keep ns gs j (omega arith) ∙ get_or-append fs _ Form.top j (omega arith)) in
    (forms_keep ns gs c (omega arith) ∙ here ∙ form_same c fs T kept n h.0, forms_stand ns gs (suc c) more h.1)

-- each entry of a table stands for the form that it names
pub form_there : (ns : List Node) → Earlier ns → (i : ℕ) → i < length ns → form_at (forms_from ns) i ≡ form_of (forms_from ns) (get_or ns i Top)
form_there ns h i p =
    let all = all_of (λ j n. Below j (node_parts n)) ns 0 Top (λ j q. rw zero-add (h j q)) in
    rw zero-add at (all_at (Stands (forms_from ns)) ns 0 Top (forms_stand ns [] 0 refl all) i p)

-- the depth over the parts of an entry
abbrev pub depth_over : List Form → Parts → ℕ
depth_over fs Nothing = 1
depth_over fs (One i) = depth (form_at fs i) + 1
depth_over fs (Two i j) = max (depth (form_at fs i)) (depth (form_at fs j)) + 1

depth_node : (fs : List Form) (n : Node) → depth (form_of fs n) ≡ depth_over fs (node_parts n)
unfolding depth
depth_node fs Top = refl
depth_node fs Bottom = refl
depth_node fs (Fact a) = refl
depth_node fs (Opposite i) = refl
depth_node fs (Both i j) = refl
depth_node fs (Either i j) = refl
depth_node fs (Implies i j) = refl
depth_node fs (Next I i) = refl
depth_node fs (DualNext I i) = refl
depth_node fs (Eventually I i) = refl
depth_node fs (Always I i) = refl
depth_node fs (Until I i j) = refl
depth_node fs (Release I i j) = refl

pub depth_there : (ns : List Node) → Earlier ns → (i : ℕ) → i < length ns → depth (form_at (forms_from ns) i) ≡ depth_over (forms_from ns) (node_parts (get_or ns i Top))
depth_there ns h i p = ap depth (form_there ns h i p) ∙ depth_node (forms_from ns) (get_or ns i Top)
