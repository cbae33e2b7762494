-- A table grows by the entries of what was read.
use Rattle.std.proofs.Common.{◌≡◌, ℕ, ◌+◌, ◌-◌, ◌≤◌, [], ◌∷◌, ◌++◌, length, sym, refl, ap, ◌∙◌, append_assoc, arith, length-append}
use Rattle.semantics.specs.Forms.{Form, Interval, forms, top, bottom, fact, opposite, both, either, implies, next, dual_next, eventually, always, until, release}
use Rattle.tables.specs.declared.node.Node.{Node}
use Rattle.grammar.specs.declared.operator.Timing.{Timing}
use Rattle.grammar.specs.declared.operator.Timing.TheVariants.{Next, DualNext, Eventually, Always}
use Rattle.grammar.specs.declared.operator.Joining.{Joining}
use Rattle.grammar.specs.declared.operator.Joining.TheVariants.{Both, Either, Implies, Until, Release}
use Rattle.grammar.specs.Grammar.{timed, joined}
use Rattle.grammar.specs.Runs.{kept}
use Rattle.reader.specs.declared.source.Source.{Source}
use Rattle.reader.specs.Tables.{written, timed_node, joined_node, held, Added, Grown}

pub forms_positive : (f : Form) → 1 ≤ forms f
unfolding forms
forms_positive top = omega arith
forms_positive bottom = omega arith
forms_positive (fact p) = omega arith
forms_positive (opposite f) = omega arith
forms_positive (both f g) = omega arith
forms_positive (either f g) = omega arith
forms_positive (implies f g) = omega arith
forms_positive (next I f) = omega arith
forms_positive (dual_next I f) = omega arith
forms_positive (eventually I f) = omega arith
forms_positive (always I f) = omega arith
forms_positive (until I f g) = omega arith
forms_positive (release I f g) = omega arith

pub length-written : (f : Form) (b : ℕ) → length (written b f) ≡ forms f
unfolding forms written
length-written top b = refl
length-written bottom b = refl
length-written (fact p) b = refl
length-written (opposite f) b = simp (length-append, length-written f) (omega arith)
length-written (both f g) b = simp (length-append, length-written f, length-written g) (omega arith)
length-written (either f g) b = simp (length-append, length-written f, length-written g) (omega arith)
length-written (implies f g) b = simp (length-append, length-written f, length-written g) (omega arith)
length-written (next I f) b = simp (length-append, length-written f) (omega arith)
length-written (dual_next I f) b = simp (length-append, length-written f) (omega arith)
length-written (eventually I f) b = simp (length-append, length-written f) (omega arith)
length-written (always I f) b = simp (length-append, length-written f) (omega arith)
length-written (until I f g) b = simp (length-append, length-written f, length-written g) (omega arith)
length-written (release I f g) b = simp (length-append, length-written f, length-written g) (omega arith)

pub forms_opposite : (f : Form) → forms (opposite f) ≡ forms f + 1
unfolding forms
forms_opposite f = refl

pub forms_timed : (o : Timing) (I : Interval) (f : Form) → forms (timed o I f) ≡ forms f + 1
unfolding forms
forms_timed Next I f = refl
forms_timed DualNext I f = refl
forms_timed Eventually I f = refl
forms_timed Always I f = refl

pub forms_joined : (o : Joining) (I : Interval) (f g : Form) → forms (joined o I f g) ≡ forms f + forms g + 1
unfolding forms
forms_joined Both I f g = refl
forms_joined Either I f g = refl
forms_joined Implies I f g = refl
forms_joined Until I f g = refl
forms_joined Release I f g = refl

pub written_top : (b : ℕ) → written b top ≡ Node.Top ∷ []
unfolding written
written_top b = refl

pub written_bottom : (b : ℕ) → written b bottom ≡ Node.Bottom ∷ []
unfolding written
written_bottom b = refl

pub written_fact : (p b : ℕ) → written b (fact p) ≡ Node.Fact p ∷ []
unfolding written
written_fact p b = refl

pub written_opposite : (b : ℕ) (f : Form) → written b (opposite f) ≡ written b f ++ (Node.Opposite (b + forms f - 1) ∷ [])
unfolding written
written_opposite b f = refl

pub written_timed : (b : ℕ) (o : Timing) (I : Interval) (f : Form) → written b (timed o I f) ≡ written b f ++ (timed_node o (kept I) (b + forms f - 1) ∷ [])
unfolding written
written_timed b Next I f = refl
written_timed b DualNext I f = refl
written_timed b Eventually I f = refl
written_timed b Always I f = refl

pub written_joined : (b : ℕ) (o : Joining) (I : Interval) (f g : Form) →
    written b (joined o I f g) ≡ written b f ++ (written (b + forms f) g ++ (joined_node o (kept I) (b + forms f - 1) (b + forms f + forms g - 1) ∷ []))
unfolding written
written_joined b Both I f g = refl
written_joined b Either I f g = refl
written_joined b Implies I f g = refl
written_joined b Until I f g = refl
written_joined b Release I f g = refl

-- a table that had room is as long as its count says
grown_length : (S S₁ : Source) (f : Form) → Grown S f S₁ → length (held S) ≡ S.count → S₁.count ≤ 64 → length (held S₁) ≡ S₁.count
grown_length S S₁ f g e h =
    ap length (g.adds e h) ∙ length-append (held S) (written S.count f) ∙ omega (arith, length-written f S.count, g.count)

-- one entry more, behind those of f
pub grown_one : (S S₁ S₂ : Source) (n : Node) (f h : Form) → Grown S f S₁ → Added S₁ n S₂ →
    forms h ≡ forms f + 1 → written S.count h ≡ written S.count f ++ (n ∷ []) → Grown S h S₂
grown_one S S₁ S₂ n f h g a s w = record {
  count = omega (arith, g.count, a.count);
  adds = λ e u.
      let u₁ : S₁.count ≤ 64 = omega (arith, a.count) in
      a.adds (grown_length S S₁ f g e u₁) u ∙ ap (λ l. l ++ (n ∷ [])) (g.adds e u₁)
      ∙ append_assoc (held S) (written S.count f) (n ∷ []) ∙ ap (λ l. held S ++ l) (sym w);
}

-- one entry more, behind those of f and g
pub grown_two : (S S₁ S₂ S₃ : Source) (n : Node) (f g h : Form) → Grown S f S₁ → Grown S₁ g S₂ → Added S₂ n S₃ →
    forms h ≡ forms f + forms g + 1 → written S.count h ≡ written S.count f ++ (written S₁.count g ++ (n ∷ [])) → Grown S h S₃
grown_two S S₁ S₂ S₃ n f g h p q a s w = record {
  count = omega (arith, p.count, q.count, a.count);
  adds = λ e u.
      let u₂ : S₂.count ≤ 64 = omega (arith, a.count) in
      let u₁ : S₁.count ≤ 64 = omega (arith, q.count) in
      let e₁ = grown_length S S₁ f p e u₁ in
      let F = written S.count f in
      let G = written S₁.count g in
      a.adds (grown_length S₁ S₂ g q e₁ u₂) u ∙ ap (λ l. l ++ (n ∷ [])) (q.adds e₁ u₂ ∙ ap (λ l. l ++ G) (p.adds e u₁))
      ∙ append_assoc (held S ++ F) G (n ∷ []) ∙ append_assoc (held S) F (G ++ (n ∷ [])) ∙ ap (λ l. held S ++ l) (sym w);
}
