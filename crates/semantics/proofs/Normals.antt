-- The normal form has the grade of the form, and that of the opposite has the opposite grade.
use Rattle.std.proofs.Common.{◌≡◌, ℕ, suc, Bool, true, false, cond, ◌&&◌, ltb, sym, refl, ap, ◌∙◌, ap₂}
use mathlib.Core.Path.{fun_ext}
use Rattle.scales.specs.Scales.{Ops, Laws, dual}
use Rattle.semantics.specs.Words.{Word, elapsed}
use Rattle.semantics.specs.Forms.{
  Form,
  top,
  bottom,
  fact,
  opposite,
  both,
  either,
  implies,
  next,
  dual_next,
  eventually,
  always,
  until,
  release,
  Interval,
  inside,
  stepped,
  until_grade,
  release_grade,
  grade,
}
use Rattle.semantics.specs.Normals.{normal, normal_grade}
use Rattle.scales.proofs.Orders.{opposite_low, opposite_high, opposite_meet, opposite_joins, opposite_cond, dual_laws}

pub opposite_until : {G : Type 0} (S : Ops G) (L : Laws S) (w : Word G) (I : Interval) (f g f' g' : ℕ → G) →
    ((j : ℕ) → f' j ≡ S.opposite (f j)) → ((j : ℕ) → g' j ≡ S.opposite (g j)) →
    (i : ℕ) → release_grade S w I f' g' i ≡ S.opposite (until_grade S w I f g i)
opposite_until S L w I f g f' g' p q i =
    ap₂ (λ x y. release_grade S w I x y i) (fun_ext p) (fun_ext q) ∙ sym
    (opposite_joins S L _ i _ ∙ simp (opposite_cond S, opposite_meet S L, opposite_joins (dual S) (dual_laws S L), opposite_low S L))

opposite_stepped : {G : Type 0} (S : Ops G) (w : Word G) (d d' : G) (I : Interval) (f f' : ℕ → G) →
    d' ≡ S.opposite d → ((j : ℕ) → f' j ≡ S.opposite (f j)) →
    (i : ℕ) → stepped S w d' I f' i ≡ S.opposite (stepped S w d I f i)
opposite_stepped S w d d' I f f' p q i = ap₂ (cond (ltb i w.count && inside I (elapsed w i (suc i)))) (q (suc i)) p ∙ sym (opposite_cond S _ _ _)

module _ {G : Type 0} (S : Ops G) (L : Laws S) (w : Word G) where
  pub normal_is : (b : Bool) (f : Form) (i : ℕ) → normal_grade S w (normal b f) i ≡ cond b (grade S w f i) (S.opposite (grade S w f i))
  unfolding normal_grade normal grade
  normal_is true top i = refl
  normal_is false top i = sym (opposite_high S L)
  normal_is true bottom i = refl
  normal_is false bottom i = sym (opposite_low S L)
  normal_is true (fact p) i = refl
  normal_is false (fact p) i = refl
  normal_is true (opposite f) i = normal_is false f i
  normal_is false (opposite f) i = normal_is true f i ∙ sym (L.opposite_twice _)
  normal_is true (both f g) i = ap₂ S.meet (normal_is true f i) (normal_is true g i)
  normal_is false (both f g) i = ap₂ S.join (normal_is false f i) (normal_is false g i) ∙ sym (opposite_meet S L _ _)
  normal_is true (either f g) i = ap₂ S.join (normal_is true f i) (normal_is true g i)
  normal_is false (either f g) i = ap₂ S.meet (normal_is false f i) (normal_is false g i) ∙ sym (L.opposite_join _ _)
  normal_is true (implies f g) i = ap₂ S.join (normal_is false f i) (normal_is true g i)
  normal_is false (implies f g) i =
      ap₂ S.meet (normal_is true f i ∙ sym (L.opposite_twice _)) (normal_is false g i) ∙ sym (L.opposite_join _ _)
  normal_is true (next I f) i = ap (λ x. stepped S w S.low I x i) (fun_ext (normal_is true f))
  normal_is false (next I f) i = opposite_stepped S w _ _ I _ _ (sym (opposite_low S L)) (normal_is false f) i
  normal_is true (dual_next I f) i = ap (λ x. stepped S w S.high I x i) (fun_ext (normal_is true f))
  normal_is false (dual_next I f) i = opposite_stepped S w _ _ I _ _ (sym (opposite_high S L)) (normal_is false f) i
  normal_is true (eventually I f) i = ap (λ x. until_grade S w I (λ _. S.high) x i) (fun_ext (normal_is true f))
  normal_is false (eventually I f) i = opposite_until S L w I _ _ _ _ (λ _. sym (opposite_high S L)) (normal_is false f) i
  normal_is true (always I f) i = ap (λ x. release_grade S w I (λ _. S.low) x i) (fun_ext (normal_is true f))
  normal_is false (always I f) i = opposite_until (dual S) (dual_laws S L) w I _ _ _ _ (λ _. sym (opposite_low S L)) (normal_is false f) i
  normal_is true (until I f g) i = ap₂ (λ x y. until_grade S w I x y i) (fun_ext (normal_is true f)) (fun_ext (normal_is true g))
  normal_is false (until I f g) i = opposite_until S L w I _ _ _ _ (normal_is false f) (normal_is false g) i
  normal_is true (release I f g) i = ap₂ (λ x y. release_grade S w I x y i) (fun_ext (normal_is true f)) (fun_ext (normal_is true g))
  normal_is false (release I f g) i = opposite_until (dual S) (dual_laws S L) w I _ _ _ _ (normal_is false f) (normal_is false g) i
