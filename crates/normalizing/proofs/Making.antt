-- The entries of a normal form, from those of its parts.
use Rattle.std.proofs.Common.{◌≡◌, ℕ, ◌+◌, ◌-◌, ◌<◌, ◌≤◌, Bool, true, false, not, List, [], ◌∷◌, ◌++◌, length, get_or, Some, None, Option, sym, refl, ap, ◌∙◌, subst, append_assoc, arith, length-append}
use Rattle.refusals.specs.declared.refusal.Refusal.{Refusal}
use Rattle.semantics.specs.Forms.{Form}
use Rattle.semantics.specs.Normals.{Normal, top, bottom, fact, opposed, both, either, next, dual_next, until, release, normal, normal_forms}
use Rattle.tables.specs.Intervals.{interval_of}
use Rattle.tables.specs.Sources.{form_at, form_of, forms_from}
use Rattle.tables.specs.declared.interval.Interval.{Interval}
use Rattle.tables.specs.declared.node.Node as node
use Rattle.tables.specs.declared.node.Node.TheVariants as written
use Rattle.tables.specs.declared.normal_node.NormalNode.{NormalNode}
use Rattle.limits.specs.Parts.{Earlier, Below, node_parts}
use Rattle.limits.proofs.Decoding.{form_there}
use Rattle.normalizing.specs.declared.shape.Leaf as leaf
use Rattle.normalizing.specs.declared.shape.Leaf.TheVariants as of_leaf
use Rattle.normalizing.specs.declared.shape.Step as step
use Rattle.normalizing.specs.declared.shape.Step.TheVariants as of_step
use Rattle.normalizing.specs.declared.shape.Joint as joint
use Rattle.normalizing.specs.declared.shape.Joint.TheVariants as of_joint
use Rattle.normalizing.specs.declared.shape.Shape as shape
use Rattle.normalizing.specs.declared.shape.Shape.TheVariants as of_shape
use Rattle.normalizing.specs.Shapes.{shape_of, leaf_node, step_node, joint_node}
use Rattle.normalizing.specs.NormalWritten.{interval_as, normal_written, Put, Full, Normalized, TooLarge}

pub normal_positive : (f : Normal) → 1 ≤ normal_forms f
unfolding normal_forms
normal_positive top = omega arith
normal_positive bottom = omega arith
normal_positive (fact p) = omega arith
normal_positive (opposed p) = omega arith
normal_positive (both f g) = omega arith
normal_positive (either f g) = omega arith
normal_positive (next I f) = omega arith
normal_positive (dual_next I f) = omega arith
normal_positive (until I f g) = omega arith
normal_positive (release I f g) = omega arith

pub length-normal : (f : Normal) (b : ℕ) → length (normal_written b f) ≡ normal_forms f
unfolding normal_forms normal_written
length-normal top b = refl
length-normal bottom b = refl
length-normal (fact p) b = refl
length-normal (opposed p) b = refl
length-normal (both f g) b = simp (length-append, length-normal f, length-normal g) (omega arith)
length-normal (either f g) b = simp (length-append, length-normal f, length-normal g) (omega arith)
length-normal (next I f) b = simp (length-append, length-normal f)
length-normal (dual_next I f) b = simp (length-append, length-normal f)
length-normal (until I f g) b = simp (length-append, length-normal f, length-normal g) (omega arith)
length-normal (release I f g) b = simp (length-append, length-normal f, length-normal g) (omega arith)

-- what a leaf, a step and a joint stand for
abbrev pub leaf_normal : leaf.Leaf → Normal
leaf_normal of_leaf.Top = top
leaf_normal of_leaf.Bottom = bottom
leaf_normal (of_leaf.Fact p) = fact p
leaf_normal (of_leaf.Opposed p) = opposed p

abbrev pub step_normal : step.Step → Normal → Normal
step_normal (of_step.Next I) f = next (interval_of I) f
step_normal (of_step.DualNext I) f = dual_next (interval_of I) f

abbrev pub joint_normal : joint.Joint → Normal → Normal → Normal
joint_normal of_joint.Both f g = both f g
joint_normal of_joint.Either f g = either f g
joint_normal (of_joint.Until I) f g = until (interval_of I) f g
joint_normal (of_joint.Release I) f g = release (interval_of I) f g

interval_parts : (l : ℕ) (u : Option ℕ) → interval_as (interval_of (record { lower = l; upper = u })) ≡ record { lower = l; upper = u }
interval_parts l None = refl
interval_parts l (Some n) = refl

pub interval_same : (I : Interval) → interval_as (interval_of I) ≡ I
interval_same I = interval_parts I.lower I.upper

written_leaf : (l : leaf.Leaf) (b : ℕ) → normal_written b (leaf_normal l) ≡ leaf_node l ∷ []
unfolding normal_written
written_leaf of_leaf.Top b = refl
written_leaf of_leaf.Bottom b = refl
written_leaf (of_leaf.Fact p) b = refl
written_leaf (of_leaf.Opposed p) b = refl

count_leaf : (l : leaf.Leaf) → normal_forms (leaf_normal l) ≡ 1
unfolding normal_forms
count_leaf of_leaf.Top = refl
count_leaf of_leaf.Bottom = refl
count_leaf (of_leaf.Fact p) = refl
count_leaf (of_leaf.Opposed p) = refl

written_step : (s : step.Step) (f : Normal) (b : ℕ) → normal_written b (step_normal s f) ≡ normal_written b f ++ (step_node s (b + normal_forms f - 1) ∷ [])
unfolding normal_written
written_step (of_step.Next I) f b = ap (λ J. normal_written b f ++ (NormalNode.Next J (b + normal_forms f - 1) ∷ [])) (interval_same I)
written_step (of_step.DualNext I) f b = ap (λ J. normal_written b f ++ (NormalNode.DualNext J (b + normal_forms f - 1) ∷ [])) (interval_same I)

count_step : (s : step.Step) (f : Normal) → normal_forms (step_normal s f) ≡ normal_forms f + 1
unfolding normal_forms
count_step (of_step.Next I) f = refl
count_step (of_step.DualNext I) f = refl

written_joint : (j : joint.Joint) (f g : Normal) (b : ℕ) → normal_written b (joint_normal j f g) ≡
    normal_written b f ++ (normal_written (b + normal_forms f) g ++ (joint_node j (b + normal_forms f - 1) (b + normal_forms f + normal_forms g - 1) ∷ []))
unfolding normal_written
written_joint of_joint.Both f g b = refl
written_joint of_joint.Either f g b = refl
written_joint (of_joint.Until I) f g b = ap (λ J. normal_written b f ++ (normal_written (b + normal_forms f) g ++ (NormalNode.Until J (b + normal_forms f - 1) (b + normal_forms f + normal_forms g - 1) ∷ []))) (interval_same I)
written_joint (of_joint.Release I) f g b = ap (λ J. normal_written b f ++ (normal_written (b + normal_forms f) g ++ (NormalNode.Release J (b + normal_forms f - 1) (b + normal_forms f + normal_forms g - 1) ∷ []))) (interval_same I)

count_joint : (j : joint.Joint) (f g : Normal) → normal_forms (joint_normal j f g) ≡ normal_forms f + normal_forms g + 1
unfolding normal_forms
count_joint of_joint.Both f g = refl
count_joint of_joint.Either f g = refl
count_joint (of_joint.Until I) f g = refl
count_joint (of_joint.Release I) f g = refl

-- the normal form that a shape makes over the forms fs
abbrev pub shaped_normal : List Form → Bool → shape.Shape → Normal
shaped_normal fs b (of_shape.Leaf l) = leaf_normal l
shaped_normal fs b (of_shape.Turned i) = normal (not b) (form_at fs i)
shaped_normal fs b (of_shape.Stepped s i) = step_normal s (normal b (form_at fs i))
shaped_normal fs b (of_shape.Waiting j l i) = joint_normal j (leaf_normal l) (normal b (form_at fs i))
shaped_normal fs b (of_shape.Joined j i c k) = joint_normal j (normal c (form_at fs i)) (normal b (form_at fs k))

normal_node : (fs : List Form) (b : Bool) (n : node.Node) → normal b (form_of fs n) ≡ shaped_normal fs b (shape_of b n)
unfolding normal
normal_node fs true written.Top = refl
normal_node fs false written.Top = refl
normal_node fs true written.Bottom = refl
normal_node fs false written.Bottom = refl
normal_node fs true (written.Fact p) = refl
normal_node fs false (written.Fact p) = refl
normal_node fs true (written.Opposite i) = refl
normal_node fs false (written.Opposite i) = refl
normal_node fs true (written.Both i j) = refl
normal_node fs false (written.Both i j) = refl
normal_node fs true (written.Either i j) = refl
normal_node fs false (written.Either i j) = refl
normal_node fs true (written.Implies i j) = refl
normal_node fs false (written.Implies i j) = refl
normal_node fs true (written.Next I i) = refl
normal_node fs false (written.Next I i) = refl
normal_node fs true (written.DualNext I i) = refl
normal_node fs false (written.DualNext I i) = refl
normal_node fs true (written.Eventually I i) = refl
normal_node fs false (written.Eventually I i) = refl
normal_node fs true (written.Always I i) = refl
normal_node fs false (written.Always I i) = refl
normal_node fs true (written.Until I i j) = refl
normal_node fs false (written.Until I i j) = refl
normal_node fs true (written.Release I i j) = refl
normal_node fs false (written.Release I i j) = refl

pub normal_there : (ns : List node.Node) → Earlier ns → (b : Bool) (i : ℕ) → i < length ns → (s : shape.Shape) → s ≡ shape_of b (get_or ns i written.Top) →
    shaped_normal (forms_from ns) b s ≡ normal b (form_at (forms_from ns) i)
normal_there ns h b i p s e =
    ap (shaped_normal (forms_from ns) b) e ∙ sym (ap (normal b) (form_there ns h i p) ∙ normal_node (forms_from ns) b (get_or ns i written.Top))

-- the forms that a shape names
abbrev pub ShapeBelow : ℕ → shape.Shape → Type 0
ShapeBelow c (of_shape.Leaf l) = Unit {0}
ShapeBelow c (of_shape.Turned i) = i < c
ShapeBelow c (of_shape.Stepped s i) = i < c
ShapeBelow c (of_shape.Waiting j l i) = i < c
ShapeBelow c (of_shape.Joined j i b k) = (i < c) × (k < c)

shape_below : (c : ℕ) (b : Bool) (n : node.Node) → Below c (node_parts n) → ShapeBelow c (shape_of b n)
shape_below c b written.Top h = tt
shape_below c b written.Bottom h = tt
shape_below c b (written.Fact p) h = tt
shape_below c b (written.Opposite i) h = h
shape_below c b (written.Both i j) h = h
shape_below c b (written.Either i j) h = h
shape_below c b (written.Implies i j) h = h
shape_below c b (written.Next I i) h = h
shape_below c b (written.DualNext I i) h = h
shape_below c b (written.Eventually I i) h = h
shape_below c b (written.Always I i) h = h
shape_below c b (written.Until I i j) h = h
shape_below c b (written.Release I i j) h = h

-- one part after the other
normalized_length : {A B : List NormalNode} {f : Normal} {r : ℕ} → Normalized A B f r → length B ≡ length A + normal_forms f
normalized_length {A = A} {f = f} a = ap length a.appended ∙ length-append A (normal_written (length A) f) ∙ ap (λ k. length A + k) (length-normal f (length A))

pub leaf_step : {A B : List NormalNode} {p : ℕ} (l : leaf.Leaf) → Put A B (leaf_node l) p → Normalized A B (leaf_normal l) p
leaf_step {A = A} l u = record { appended = u.appended ∙ ap (λ x. A ++ x) (sym (written_leaf l (length A))); root = omega (arith, u.place, count_leaf l) }

pub leaf_full : {A : List NormalNode} {e : Refusal} (l : leaf.Leaf) → Full A e → TooLarge A (leaf_normal l) e
leaf_full l u = record { is = u.is; over = omega (arith, u.full, count_leaf l) }

pub step_step : {A B C : List NormalNode} {f : Normal} {i p : ℕ} (s : step.Step) → Normalized A B f i → Put B C (step_node s i) p → Normalized A C (step_normal s f) p
step_step {A = A} {f = f} {i = i} s a u =
    let n = normalized_length a in
    let k : i ≡ length A + normal_forms f - 1 = omega (arith, a.root) in
    record {
      appended = u.appended ∙ ap (λ x. x ++ (step_node s i ∷ [])) a.appended ∙ append_assoc A (normal_written (length A) f) (step_node s i ∷ []) ∙
          ap (λ x. A ++ x) (ap (λ m. normal_written (length A) f ++ (step_node s m ∷ [])) k ∙ sym (written_step s f (length A)));
      root = omega (arith, u.place, count_step s f);
    }

pub step_full : {A B : List NormalNode} {f : Normal} {i : ℕ} {e : Refusal} (s : step.Step) → Normalized A B f i → Full B e → TooLarge A (step_normal s f) e
step_full {f = f} s a u = record { is = u.is; over = omega (arith, u.full, count_step s f, normalized_length a) }

pub step_over : {A : List NormalNode} {f : Normal} {e : Refusal} (s : step.Step) → TooLarge A f e → TooLarge A (step_normal s f) e
step_over {f = f} s a = record { is = a.is; over = omega (arith, a.over, count_step s f) }

pub joint_step : {A B C D : List NormalNode} {f g : Normal} {i k p : ℕ} (j : joint.Joint) → Normalized A B f i → Normalized B C g k → Put C D (joint_node j i k) p → Normalized A D (joint_normal j f g) p
joint_step {A = A} {B = B} {f = f} {g = g} {i = i} {k = k} j a b u =
    let m = normalized_length a in
    let n = normalized_length b in
    let d = joint_node j i k in
    let F = normal_written (length A) f in
    let G = normal_written (length B) g in
    let x : i ≡ length A + normal_forms f - 1 = omega (arith, a.root) in
    let y : k ≡ length A + normal_forms f + normal_forms g - 1 = omega (arith, b.root) in
    record {
      appended = u.appended ∙ ap (λ z. z ++ (d ∷ [])) (b.appended ∙ ap (λ z. z ++ G) a.appended) ∙
          append_assoc (A ++ F) G (d ∷ []) ∙ append_assoc A F (G ++ (d ∷ [])) ∙
          ap (λ z. A ++ z) ((λ t. F ++ (normal_written (m t) g ++ (joint_node j (x t) (y t) ∷ []))) ∙ sym (written_joint j f g (length A)));
      root = omega (arith, u.place, count_joint j f g);
    }

pub joint_full : {A B C : List NormalNode} {f g : Normal} {i k : ℕ} {e : Refusal} (j : joint.Joint) → Normalized A B f i → Normalized B C g k → Full C e → TooLarge A (joint_normal j f g) e
joint_full {f = f} {g = g} j a b u = record { is = u.is; over = omega (arith, u.full, count_joint j f g, normalized_length a, normalized_length b) }

pub joint_left : {A : List NormalNode} {f : Normal} {e : Refusal} (g : Normal) (j : joint.Joint) → TooLarge A f e → TooLarge A (joint_normal j f g) e
joint_left {f = f} g j a = record { is = a.is; over = omega (arith, a.over, count_joint j f g) }

pub joint_right : {A B : List NormalNode} {f g : Normal} {i : ℕ} {e : Refusal} (j : joint.Joint) → Normalized A B f i → TooLarge B g e → TooLarge A (joint_normal j f g) e
joint_right {f = f} {g = g} j a b = record { is = b.is; over = omega (arith, b.over, count_joint j f g, normalized_length a) }

pub put_as : {A B : List NormalNode} {m n : NormalNode} {i : ℕ} → m ≡ n → Put A B m i → Put A B n i
put_as {A = A} {B = B} {i = i} e u = subst (λ n. Put A B n i) e u

pub normalized_as : {A B : List NormalNode} {f g : Normal} {i : ℕ} → f ≡ g → Normalized A B f i → Normalized A B g i
normalized_as {A = A} {B = B} {i = i} e u = subst (λ f. Normalized A B f i) e u

pub large_as : {A : List NormalNode} {f g : Normal} {r : Refusal} → f ≡ g → TooLarge A f r → TooLarge A g r
large_as {A = A} {r = r} e u = subst (λ f. TooLarge A f r) e u
