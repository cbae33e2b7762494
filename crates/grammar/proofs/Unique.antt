-- A text has at most one reading.
use Rattle.std.proofs.Common.{◌≡◌, ℕ, ◌≤◌, cond, eqb, ◌⊎◌, List, [], ◌∷◌, ◌++◌, sym, refl, ap, ◌∙◌, subst, inl, inr, arith}
use Rattle.grammar.specs.declared.operator.Timing.{Timing}
use Rattle.grammar.specs.declared.operator.Timing.TheVariants.{Next, DualNext, Eventually, Always}
use Rattle.grammar.specs.declared.operator.Joining.{Joining}
use Rattle.grammar.specs.declared.operator.Joining.TheVariants.{Both, Either, Implies, Until, Release}
use Rattle.semantics.specs.Forms.{Upper, upto, Interval, Form}
use Rattle.semantics.specs.Forms.{fact, opposite}
use Rattle.grammar.specs.Grammar.{skip, Symbol, Digit, Digits, NoDigit, Numeral, decimal, Number, UpperAt, no_end, an_end, Inside, BoundsAt, absent, given}
use Rattle.grammar.specs.Grammar.{Plain, is_one, is_zero, is_fact, timing_sign, timed, joining_sign, joined, JoiningBounds, JoiningAt, FormAt, plain_at, opposite_at, timed_at, pair_at, PairAt, Unambiguous}

-- two symbols at one place
pub same_sign : {a b : ℕ} {t u v : List ℕ} → Symbol a t u → Symbol b t v → a ≡ b
same_sign p q = let e = sym p.starts ∙ q.starts in cc

pub same_rest : {a b : ℕ} {t u v : List ℕ} → Symbol a t u → Symbol b t v → u ≡ v
same_rest p q = let e = sym p.starts ∙ q.starts in cc

-- the digits at the front of a text, and what is behind them
same_digits : (ds es r s : List ℕ) → ds ++ r ≡ es ++ s → Digits ds → Digits es → NoDigit r → NoDigit s → (ds ≡ es) × (r ≡ s)
same_digits [] [] r s e p q h k = (refl, e)
same_digits [] (c ∷ es) [] s e p q h k = let z : ◌≡◌ {A = ℕ} 0 1 = cc in absurd (omega arith)
same_digits [] (c ∷ es) (d ∷ r) s e p q h k = let z : d ≡ c = cc in absurd (h (subst Digit (sym z) q.0))
same_digits (c ∷ ds) [] r [] e p q h k = let z : ◌≡◌ {A = ℕ} 0 1 = cc in absurd (omega arith)
same_digits (c ∷ ds) [] r (d ∷ s) e p q h k = let z : c ≡ d = cc in absurd (k (subst Digit z p.0))
same_digits (c ∷ ds) (d ∷ es) r s e p q h k =
    let z : c ≡ d = cc in
    let t : ds ++ r ≡ es ++ s = cc in
    let w = same_digits ds es r s t p.1 q.1 h k in
    let v = w.0 in
    (cc, w.1)

-- a number at the front of a text
pub same_number : {t r s : List ℕ} {m n : ℕ} → Number t m r → Number t n s → (m ≡ n) × (r ≡ s)
same_number a b =
    let w = same_digits _ _ _ _ (sym a.begins ∙ b.begins) a.all b.all a.ends b.ends in
    (a.value ∙ ap decimal w.0 ∙ sym b.value, w.1)

starts_digit : (t r ds : List ℕ) → skip t ≡ ds ++ r → Digits ds → Numeral ds → (c : ℕ) × (u : List ℕ) × Symbol c t u × Digit c
starts_digit t r [] e p q = absurd q
starts_digit t r (c ∷ ds) e p q = (c, ds ++ r, record { starts = e }, p.0)

pub number_starts : {t r : List ℕ} {n : ℕ} → Number t n r → (c : ℕ) × (u : List ℕ) × Symbol c t u × Digit c
number_starts {t = t} {r = r} a = starts_digit t r a.digits a.begins a.all a.proper

pub same_upper : {t r s : List ℕ} {a b : Upper} → UpperAt t a r → UpperAt t b s → (a ≡ b) × (r ≡ s)
same_upper (no_end p) (no_end q) = (refl, same_rest p q)
same_upper (no_end p) (an_end q) = let w = number_starts q in absurd (omega (arith, same_sign p w.2, w.3))
same_upper (an_end p) (no_end q) = let w = number_starts p in absurd (omega (arith, same_sign q w.2, w.3))
same_upper (an_end p) (an_end q) = let w = same_number p q in (ap upto w.0, w.1)

pub same_inside : {t r s : List ℕ} {I J : Interval} → Inside t I r → Inside t J s → (I ≡ J) × (r ≡ s)
same_inside {r = r} {s = s} {I = I} {J = J} a b =
    let n = same_number a.from b.from in
    let e₃ = same_rest (subst (λ t. Symbol 44 t _) n.1 a.comma) b.comma in
    let u = same_upper (subst (λ t. UpperAt t _ _) e₃ a.to) b.to in
    (λ i. record { lower = n.0 i; upper = u.0 i }, same_rest (subst (λ t. Symbol 93 t _) u.1 a.closes) b.closes)

pub same_bounds : {t r s : List ℕ} {I J : Interval} → BoundsAt t I r → BoundsAt t J s → (I ≡ J) × (r ≡ s)
same_bounds (absent p) (absent q) = (refl, refl)
same_bounds (absent p) (given x q) = absurd (p _ x)
same_bounds (given x p) (absent q) = absurd (q _ x)
same_bounds (given {I = I} {r = r} x p) (given y q) = same_inside (subst (λ t. Inside t I r) (same_rest x y) p) q

-- the signs of the forms keep apart
plain_sign : {c : ℕ} {f : Form} → Plain c f → ((48 ≤ c) × (c ≤ 49)) ⊎ (97 ≤ c)
plain_sign (is_one e) = inl (omega arith, omega arith)
plain_sign (is_zero e) = inl (omega arith, omega arith)
plain_sign (is_fact h e) = inr (omega arith)

timing_range : (o : Timing) → (70 ≤ timing_sign o) × (timing_sign o ≤ 89)
timing_range Next = (omega arith, omega arith)
timing_range DualNext = (omega arith, omega arith)
timing_range Eventually = (omega arith, omega arith)
timing_range Always = (omega arith, omega arith)

of_timing_sign : ℕ → Timing
of_timing_sign n = cond (eqb n 88) Next (cond (eqb n 89) DualNext (cond (eqb n 70) Eventually Always))

of_timing : (o : Timing) → of_timing_sign (timing_sign o) ≡ o
unfolding of_timing_sign
of_timing Next = refl
of_timing DualNext = refl
of_timing Eventually = refl
of_timing Always = refl

pub same_timing : (o p : Timing) → timing_sign o ≡ timing_sign p → o ≡ p
same_timing o p e = sym (of_timing o) ∙ ap of_timing_sign e ∙ of_timing p

of_joining_sign : ℕ → Joining
of_joining_sign n = cond (eqb n 38) Both (cond (eqb n 124) Either (cond (eqb n 62) Implies (cond (eqb n 85) Until Release)))

of_joining : (o : Joining) → of_joining_sign (joining_sign o) ≡ o
unfolding of_joining_sign
of_joining Both = refl
of_joining Either = refl
of_joining Implies = refl
of_joining Until = refl
of_joining Release = refl

pub same_joining_sign : (o p : Joining) → joining_sign o ≡ joining_sign p → o ≡ p
same_joining_sign o p e = sym (of_joining o) ∙ ap of_joining_sign e ∙ of_joining p

pub same_plain : {c : ℕ} {f g : Form} → Plain c f → Plain c g → f ≡ g
same_plain (is_one e) (is_one d) = refl
same_plain (is_one e) (is_zero d) = absurd (omega arith)
same_plain (is_one e) (is_fact h d) = absurd (omega arith)
same_plain (is_zero e) (is_one d) = absurd (omega arith)
same_plain (is_zero e) (is_zero d) = refl
same_plain (is_zero e) (is_fact h d) = absurd (omega arith)
same_plain (is_fact h e) (is_one d) = absurd (omega arith)
same_plain (is_fact h e) (is_zero d) = absurd (omega arith)
same_plain (is_fact h e) (is_fact k d) = ap fact (omega arith)

same_joining_bounds : (o : Joining) (t r s : List ℕ) (I J : Interval) → JoiningBounds o t I r → JoiningBounds o t J s → (I ≡ J) × (r ≡ s)
same_joining_bounds Both t r s I J a b = (a.0 ∙ sym b.0, sym a.1 ∙ b.1)
same_joining_bounds Either t r s I J a b = (a.0 ∙ sym b.0, sym a.1 ∙ b.1)
same_joining_bounds Implies t r s I J a b = (a.0 ∙ sym b.0, sym a.1 ∙ b.1)
same_joining_bounds Until t r s I J a b = same_bounds a b
same_joining_bounds Release t r s I J a b = same_bounds a b

-- what a text that begins with a given sign reads
pub record Opposed (u : List ℕ) (g : Form) (s : List ℕ) : Type 0 where
  pub inner : Form
  pub reads : FormAt u inner s
  pub is : g ≡ opposite inner

pub record TimingRead (o : Timing) (u : List ℕ) (g : Form) (s : List ℕ) : Type 0 where
  pub interval : Interval
  pub rest : List ℕ
  pub inner : Form
  pub bounds : BoundsAt u interval rest
  pub reads : FormAt rest inner s
  pub is : g ≡ timed o interval inner

pub from_plain : {t u s : List ℕ} {c : ℕ} {f g : Form} → FormAt t g s → Symbol c t u → Plain c f → (f ≡ g) × (u ≡ s)
from_plain {g = g} (plain_at y q) x p = (same_plain p (subst (λ c. Plain c g) (same_sign y x) q), same_rest x y)
from_plain (opposite_at y q) x p = absurd (omega (arith, same_sign x y, plain_sign p))
from_plain (timed_at o y b q) x p = absurd (omega (arith, same_sign x y, timing_range o, plain_sign p))
from_plain (pair_at o y q j r z) x p = absurd (omega (arith, same_sign x y, plain_sign p))

pub from_opposite : {t u s : List ℕ} {g : Form} → FormAt t g s → Symbol 33 t u → Opposed u g s
from_opposite (plain_at y q) x = absurd (omega (arith, same_sign x y, plain_sign q))
from_opposite (opposite_at {r = r} {f = f} y q) x = record { inner = f; reads = subst (λ t. FormAt t f r) (same_rest y x) q; is = refl }
from_opposite (timed_at o y b q) x = absurd (omega (arith, same_sign x y, timing_range o))
from_opposite (pair_at o y q j r z) x = absurd (omega (arith, same_sign x y))

pub from_timed : {t u s : List ℕ} {g : Form} (o : Timing) → FormAt t g s → Symbol (timing_sign o) t u → TimingRead o u g s
from_timed o (plain_at y q) x = absurd (omega (arith, same_sign x y, timing_range o, plain_sign q))
from_timed o (opposite_at y q) x = absurd (omega (arith, same_sign x y, timing_range o))
from_timed o (timed_at {v = v} {I = I} {f = f} p y b q) x = record {
  interval = I;
  rest = v;
  inner = f;
  bounds = subst (λ t. BoundsAt t I v) (same_rest y x) b;
  reads = q;
  is = ap (λ w. timed w I f) (same_timing p o (same_sign y x));
}
from_timed o (pair_at p y q j r z) x = absurd (omega (arith, same_sign x y, timing_range o))

pub from_pair : {t u s : List ℕ} {g : Form} → FormAt t g s → Symbol 40 t u → PairAt u g s
from_pair (plain_at y q) x = absurd (omega (arith, same_sign x y, plain_sign q))
from_pair (opposite_at y q) x = absurd (omega (arith, same_sign x y))
from_pair (timed_at o y b q) x = absurd (omega (arith, same_sign x y, timing_range o))
from_pair (pair_at {u = u} {v = v} {w = w} {x = x'} {I = I} {f = f} {g = g} o y q j r z) x = record {
  o = o;
  interval = I;
  f₁ = f;
  f₂ = g;
  v = v;
  w = w;
  x = x';
  left = subst (λ t. FormAt t f v) (same_rest y x) q;
  joins = j;
  right = r;
  closes = z;
  is = refl;
}

pub record SameJoining (o p : Joining) (I J : Interval) (r s : List ℕ) : Type 0 where
  pub sign : o ≡ p
  pub interval : I ≡ J
  pub rest : r ≡ s

pub same_joining : {t r s : List ℕ} {I J : Interval} {o p : Joining} → JoiningAt t o I r → JoiningAt t p J s → SameJoining o p I J r s
same_joining {r = r} {s = s} {I = I} {J = J} {o = o} {p = p} a b =
    let e = same_joining_sign o p (same_sign a.sign b.sign) in
    let k = subst (λ t. JoiningBounds o t I r) (same_rest a.sign b.sign) a.bounds in
    let w = same_joining_bounds p b.after r s I J (subst (λ q. JoiningBounds q b.after I r) e k) b.bounds in
    record { sign = e; interval = w.0; rest = w.1 }

-- at most one form stands at the front of a text, and at most one rest is behind it
pub same_form : {t r s : List ℕ} {f g : Form} → FormAt t f r → FormAt t g s → (f ≡ g) × (r ≡ s)
same_form (plain_at x p) b = from_plain b x p
same_form (opposite_at {f = f} x a) b =
    let k = from_opposite b x in
    let w = same_form a k.reads in
    (ap opposite w.0 ∙ sym k.is, w.1)
same_form {s = s} (timed_at o x p a) b =
    let k = from_timed o b x in
    let e = same_bounds p k.bounds in
    let w = same_form a (subst (λ t. FormAt t k.inner s) (sym e.1) k.reads) in
    ((λ i. timed o (e.0 i) (w.0 i)) ∙ sym k.is, w.1)
same_form (pair_at {w = w} {r = r} {I = I} o x a j c z) b =
    let k = from_pair b x in
    let l = same_form a k.left in
    let m = same_joining (subst (λ t. JoiningAt t o I w) l.1 j) k.joins in
    let n = same_form c (subst (λ t. FormAt t k.f₂ k.x) (sym m.rest) k.right) in
    ((λ i. joined (m.sign i) (m.interval i) (l.0 i) (n.0 i)) ∙ sym k.is, same_rest (subst (λ t. Symbol 41 t r) n.1 z) k.closes)

pub unambiguous : Unambiguous
unambiguous t f g a b = (same_form a.form b.form).0
