-- Where a part is not there, the whole is not.
use Rattle.std.proofs.Common.{◌≡◌, ℕ, List, Some, None, Option, refl, subst, MatchOption}
use Rattle.grammar.specs.declared.operator.Joining.{Joining}
use Rattle.grammar.specs.declared.operator.Joining.TheVariants.{Both, Either, Implies, Until, Release}
use Rattle.semantics.specs.Forms.{Upper, Interval}
use Rattle.grammar.specs.Grammar.{Symbol, Number, UpperAt, no_end, an_end, whole, Inside, BoundsAt, absent, given}
use Rattle.grammar.specs.Grammar.{JoiningBounds}
use Rattle.grammar.proofs.Unique.{same_rest, same_number, same_upper}

pub no_upper : {t r : List ℕ} {a : Upper} → ((u : List ℕ) → Symbol 42 t u → ⊥) → ((n : ℕ) (u : List ℕ) → Number t n u → ⊥) → UpperAt t a r → ⊥
no_upper p q (no_end x) = p _ x
no_upper p q (an_end x) = q _ _ x

pub no_comma : {t u r : List ℕ} {n : ℕ} {I : Interval} → Number t n u → ((v : List ℕ) → Symbol 44 u v → ⊥) → Inside t I r → ⊥
no_comma a p b = p b.t₃ (subst (λ t. Symbol 44 t b.t₃) (same_number b.from a).1 b.comma)

pub same_comma : {t u v r : List ℕ} {n : ℕ} {I : Interval} → Number t n u → Symbol 44 u v → (b : Inside t I r) → b.t₃ ≡ v
same_comma a c b = same_rest (subst (λ t. Symbol 44 t b.t₃) (same_number b.from a).1 b.comma) c

pub no_to : {t u v r : List ℕ} {n : ℕ} {I : Interval} → Number t n u → Symbol 44 u v → ((U : Upper) (w : List ℕ) → UpperAt v U w → ⊥) → Inside t I r → ⊥
no_to {I = I} a c p b = p I.upper b.t₄ (subst (λ t. UpperAt t I.upper b.t₄) (same_comma a c b) b.to)

pub no_close : {t u v w r : List ℕ} {n : ℕ} {U : Upper} {I : Interval} → Number t n u → Symbol 44 u v → UpperAt v U w → ((x : List ℕ) → Symbol 93 w x → ⊥) → Inside t I r → ⊥
no_close {r = r} {I = I} a c d p b =
    let e = same_upper (subst (λ t. UpperAt t I.upper b.t₄) (same_comma a c b) b.to) d in
    p r (subst (λ t. Symbol 93 t r) e.1 b.closes)

pub no_bounds : {t u r : List ℕ} {I : Interval} → Symbol 91 t u → ((I : Interval) (r : List ℕ) → Inside u I r → ⊥) → BoundsAt t I r → ⊥
no_bounds x p (absent q) = q _ x
no_bounds x p (given {I = I} {r = r} y q) = p I r (subst (λ t. Inside t I r) (same_rest y x) q)

pub some_weaker : {A : Type 0} (o : Option A) {P P' : Type 0} {Q Q' : A → Type 0} → (P → P') → ((x : A) → Q x → Q' x) → MatchOption o P Q → MatchOption o P' Q'
some_weaker (Some x) p q h = q x h
some_weaker None p q h = p h

pub bare_joining : (o : Joining) (t : List ℕ) → (o ≡ Until → ⊥) → (o ≡ Release → ⊥) → JoiningBounds o t whole t
bare_joining Both t p q = (refl, refl)
bare_joining Either t p q = (refl, refl)
bare_joining Implies t p q = (refl, refl)
bare_joining Until t p q = absurd (p refl)
bare_joining Release t p q = absurd (q refl)

pub sign_as : {a b : ℕ} {t r : List ℕ} → a ≡ b → Symbol a t r → Symbol b t r
sign_as {t = t} {r = r} e x = subst (λ s. Symbol s t r) e x
