-- What `form` and `pair` read, from what their parts read.
use Rattle.std.proofs.Common.{◌≡◌, ℕ, ◌+◌, ◌-◌, List, [], ◌∷◌, ◌++◌, sym, refl, ap, ◌∙◌, subst, arith}
use Rattle.semantics.specs.Forms.{Interval, Form, forms, opposite}
use Rattle.tables.specs.declared.interval.Interval as code
use Rattle.tables.specs.declared.node.Node.{Node}
use Rattle.tables.specs.declared.node.Node.TheVariants.{Opposite}
use Rattle.grammar.specs.declared.operator.Timing.{Timing}
use Rattle.grammar.specs.declared.operator.Joining.{Joining}
use Rattle.grammar.specs.Grammar.{skip, Symbol, BoundsAt, Plain, is_one, is_zero, is_fact, timing_sign, timed, joined, JoiningAt, Reads, FormAt, plain_at, opposite_at, timed_at, pair_at, PairAt}
use Rattle.grammar.specs.Runs.{kept, BoundsRead, JoiningRead}
use Rattle.grammar.proofs.Lengths.{symbol_shorter, bounds_shorter, joining_shorter}
use Rattle.grammar.proofs.Unique.{same_sign, same_bounds, same_form, same_joining, from_timed}
use Rattle.reader.specs.declared.source.Source.{Source}
use Rattle.reader.specs.Tables.{written, timed_node, joined_node, held, Added, FormRead, PairRead, Leaf}
use Rattle.reader.proofs.Growth.{forms_opposite, forms_timed, forms_joined, written_opposite, written_timed, written_joined, grown_one, grown_two}

forms_plain : {c : ℕ} {f : Form} → Plain c f → forms f ≡ 1
unfolding forms
forms_plain (is_one e) = refl
forms_plain (is_zero e) = refl
forms_plain (is_fact h e) = refl

pub plain_step : {c : ℕ} {t r : List ℕ} {n : Node} {S S₁ : Source} → Symbol c t r → Leaf c n → Added S n S₁ → FormRead t S r S₁
plain_step {S = S} x a b =
    record {
      f = a.f;
      reads = plain_at x a.reads;
      grown = record { count = b.count ∙ ap (λ k. S.count + k) (sym (forms_plain a.reads)); adds = λ e h. b.adds e h ∙ ap (λ l. held S ++ l) (sym (a.is S.count)) };
      fits = omega (arith, b.count, symbol_shorter x);
      shorter = symbol_shorter x;
    }

pub opposite_step : {t u r : List ℕ} {S S₁ S₂ : Source} → Symbol 33 t u → FormRead u S r S₁ → Added S₁ (Opposite (S₁.count - 1)) S₂ → FormRead t S r S₂
opposite_step {S = S} {S₁ = S₁} {S₂ = S₂} x a b =
    let f = a.f in
    record {
      f = opposite f;
      reads = opposite_at x a.reads;
      grown = grown_one S S₁ S₂ (Opposite (S₁.count - 1)) f (opposite f) a.grown b (forms_opposite f)
          (written_opposite S.count f ∙ ap (λ k. written S.count f ++ (Opposite (k - 1) ∷ [])) (sym a.grown.count));
      fits = omega (arith, b.count, symbol_shorter x, a.fits);
      shorter = omega (arith, symbol_shorter x, a.shorter);
    }

pub timed_step : {c : ℕ} {t u v r : List ℕ} {S S₁ S₂ : Source} {b : code.Interval} {n : Node} (o : Timing) → Symbol c t u → timing_sign o ≡ c → BoundsRead u b v → FormRead v S r S₁ →
    n ≡ timed_node o b (S₁.count - 1) → Added S₁ n S₂ → FormRead t S r S₂
timed_step {t = t} {u = u} {S = S} {S₁ = S₁} {S₂ = S₂} {b = b} {n = n} o x s p a k d =
    let f = a.f in
    let I = p.I in
    let e : timed_node o (kept I) (S.count + forms f - 1) ≡ n = (λ i. timed_node o (sym p.value i) (sym a.grown.count i - 1)) ∙ sym k in
    record {
      f = timed o I f;
      reads = timed_at o (subst (λ c. Symbol c t u) (sym s) x) p.reads a.reads;
      grown = grown_one S S₁ S₂ n f (timed o I f) a.grown d (forms_timed o I f)
          (written_timed S.count o I f ∙ ap (λ m. written S.count f ++ (m ∷ [])) e);
      fits = omega (arith, d.count, symbol_shorter x, bounds_shorter p.reads, a.fits);
      shorter = omega (arith, symbol_shorter x, bounds_shorter p.reads, a.shorter);
    }

pub pair_step : {t v w x r : List ℕ} {S S₁ S₂ S₃ : Source} {o : Joining} {b : code.Interval} {n : Node} → FormRead t S v S₁ → JoiningRead v o b w → FormRead w S₁ x S₂ → Symbol 41 x r →
    n ≡ joined_node o b (S₁.count - 1) (S₂.count - 1) → Added S₂ n S₃ → PairRead t S r S₃
pair_step {v = v} {w = w} {x = x} {S = S} {S₁ = S₁} {S₂ = S₂} {S₃ = S₃} {o = o} {b = b} {n = n} a j c z k d =
    let f = a.f in
    let g = c.f in
    let I = j.I in
    let m₁ : S.count + forms f ≡ S₁.count = sym a.grown.count in
    let m₂ : S.count + forms f + forms g ≡ S₂.count = omega (arith, a.grown.count, c.grown.count) in
    let e : joined_node o (kept I) (S.count + forms f - 1) (S.count + forms f + forms g - 1) ≡ n = (λ i. joined_node o (sym j.value i) (m₁ i - 1) (m₂ i - 1)) ∙ sym k in
    record {
      f = joined o I f g;
      reads = record { o = o; interval = I; f₁ = f; f₂ = g; v = v; w = w; x = x; left = a.reads; joins = j.reads; right = c.reads; closes = z; is = refl };
      grown = grown_two S S₁ S₂ S₃ n f g (joined o I f g) a.grown c.grown d (forms_joined o I f g)
          (written_joined S.count o I f g ∙ (λ i. written S.count f ++ (written (m₁ i) g ++ (e i ∷ []))));
      fits = omega (arith, d.count, symbol_shorter z, joining_shorter j.reads, a.fits, c.fits);
      shorter = omega (arith, symbol_shorter z, joining_shorter j.reads, a.shorter, c.shorter);
    }

pub pair_form : {t u r : List ℕ} {S S₁ : Source} → Symbol 40 t u → PairRead u S r S₁ → FormRead t S r S₁
pair_form {t = t} {r = r} x a =
    let p = a.reads in
    record {
      f = a.f;
      reads = subst (λ f. FormAt t f r) (sym p.is) (pair_at p.o x p.left p.joins p.right p.closes);
      grown = a.grown;
      fits = omega (arith, symbol_shorter x, a.fits);
      shorter = omega (arith, symbol_shorter x, a.shorter);
    }

-- and where a part is not there
pub form_some : {t u : List ℕ} {f : Form} → FormAt t f u → skip t ≡ [] → ⊥
form_some (plain_at x p) e = let h = sym x.starts ∙ e in let z : ◌≡◌ {A = ℕ} 0 1 = cc in omega arith
form_some (opposite_at x a) e = let h = sym x.starts ∙ e in let z : ◌≡◌ {A = ℕ} 0 1 = cc in omega arith
form_some (timed_at o x p a) e = let h = sym x.starts ∙ e in let z : ◌≡◌ {A = ℕ} 0 1 = cc in omega arith
form_some (pair_at o x a j b z) e = let h = sym x.starts ∙ e in let z : ◌≡◌ {A = ℕ} 0 1 = cc in omega arith

pub no_timed_bounds : {t u r : List ℕ} {g : Form} (o : Timing) → Symbol (timing_sign o) t u → ((I : Interval) (v : List ℕ) → BoundsAt u I v → ⊥) → FormAt t g r → ⊥
no_timed_bounds o x p a = let w = from_timed o a x in p w.interval w.rest w.bounds

pub no_timed_form : {t u v r : List ℕ} {I : Interval} {g : Form} (o : Timing) → Symbol (timing_sign o) t u → BoundsAt u I v → ((f : Form) (s : List ℕ) → FormAt v f s → ⊥) → FormAt t g r → ⊥
no_timed_form {r = r} o x b p a =
    let w = from_timed o a x in
    p w.inner r (subst (λ t. FormAt t w.inner r) (same_bounds w.bounds b).1 w.reads)

pub no_other : {c : ℕ} {t u r : List ℕ} {g : Form} → Symbol c t u → ((f : Form) → Plain c f → ⊥) → (c ≡ 33 → ⊥) → (c ≡ 40 → ⊥) → ((o : Timing) → timing_sign o ≡ c → ⊥) → FormAt t g r → ⊥
no_other {g = g} x p h₁ h₂ h₃ (plain_at y q) = p g (subst (λ c. Plain c g) (same_sign y x) q)
no_other x p h₁ h₂ h₃ (opposite_at y q) = h₁ (same_sign x y)
no_other x p h₁ h₂ h₃ (timed_at o y b q) = h₃ o (same_sign y x)
no_other x p h₁ h₂ h₃ (pair_at o y q j r z) = h₂ (same_sign x y)

pub no_joining : {t v r : List ℕ} {f g : Form} → FormAt t f v → ((o : Joining) (I : Interval) (w : List ℕ) → JoiningAt v o I w → ⊥) → PairAt t g r → ⊥
no_joining a p b = p b.o b.interval b.w (subst (λ t. JoiningAt t b.o b.interval b.w) (same_form b.left a).1 b.joins)

same_right : {t v w r : List ℕ} {o : Joining} {I : Interval} {f g : Form} → FormAt t f v → JoiningAt v o I w → (b : PairAt t g r) → b.w ≡ w
same_right a j b = (same_joining (subst (λ t. JoiningAt t b.o b.interval b.w) (same_form b.left a).1 b.joins) j).rest

pub no_right : {t v w r : List ℕ} {o : Joining} {I : Interval} {f g : Form} → FormAt t f v → JoiningAt v o I w → ((h : Form) (s : List ℕ) → FormAt w h s → ⊥) → PairAt t g r → ⊥
no_right a j p b = p b.f₂ b.x (subst (λ t. FormAt t b.f₂ b.x) (same_right a j b) b.right)

pub no_end : {t v w x r : List ℕ} {o : Joining} {I : Interval} {f g h : Form} → FormAt t f v → JoiningAt v o I w → FormAt w g x → ((s : List ℕ) → Symbol 41 x s → ⊥) → PairAt t h r → ⊥
no_end {r = r} a j c p b =
    let e = (same_form (subst (λ t. FormAt t b.f₂ b.x) (same_right a j b) b.right) c).1 in
    p r (subst (λ t. Symbol 41 t r) e b.closes)

pub no_more : {c : ℕ} {t r s : List ℕ} {f g : Form} → FormAt t f r → Symbol c r s → Reads t g → ⊥
no_more a x b =
    let e = (same_form a b.form).1 in
    let h = sym x.starts ∙ ap skip e ∙ b.ends in
    let z : ◌≡◌ {A = ℕ} 0 1 = cc in omega arith
