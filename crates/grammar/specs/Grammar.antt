-- How a rule is written. Bytes are numbers; 32 is the space.
use Rattle.std.specs.Prelude.{◌≡◌, ℕ, ◌+◌, ◌-◌, ◌*◌, ◌<◌, ◌≤◌, cond, List, [], ◌∷◌, ◌++◌, fold, ◌==◌}
use Rattle.grammar.specs.declared.operator.Timing.{Timing}
use Rattle.grammar.specs.declared.operator.Timing.TheVariants.{Next, DualNext, Eventually, Always}
use Rattle.grammar.specs.declared.operator.Joining.{Joining}
use Rattle.grammar.specs.declared.operator.Joining.TheVariants.{Both, Either, Implies, Until, Release}
use Rattle.semantics.specs.Forms.{Upper, none, upto, Interval, Form}
use Rattle.semantics.specs.Forms.{top, bottom, fact, opposite, both, either, implies, next, dual_next, eventually, always, until, release}

-- the text from its first byte that is no space
unfoldable pub skip : List ℕ → List ℕ
skip [] = []
skip (c ∷ t) = cond (c == 32) (skip t) (c ∷ t)

-- the symbol c stands first, and r follows it
pub record Symbol (c : ℕ) (t r : List ℕ) : Type 0 where
  pub starts : skip t ≡ c ∷ r

abbrev pub Digit : ℕ → Type 0
Digit c = (48 ≤ c) × (c ≤ 57)

abbrev pub Digits : List ℕ → Type 0
Digits [] = Unit {0}
Digits (c ∷ t) = Digit c × Digits t

abbrev pub NoDigit : List ℕ → Type 0
NoDigit [] = Unit {0}
NoDigit (c ∷ t) = Digit c → ⊥

-- `0`, or digits of which the first is no 0
abbrev pub Numeral : List ℕ → Type 0
Numeral [] = ⊥
Numeral (c ∷ []) = Unit {0}
Numeral (c ∷ d ∷ t) = c ≡ 48 → ⊥

abbrev pub decimal : List ℕ → ℕ
decimal = fold (λ n c. 10 * n + (c - 48)) 0

-- a number is one symbol, and ends where no digit follows
pub record Number (t : List ℕ) (n : ℕ) (r : List ℕ) : Type 0 where
  pub digits : List ℕ
  pub begins : skip t ≡ digits ++ r
  pub all : Digits digits
  pub ends : NoDigit r
  pub proper : Numeral digits
  pub value : n ≡ decimal digits

-- n, or `*`
pub data UpperAt (t : List ℕ) : Upper → List ℕ → Type 0 where
  no_end : {r : List ℕ} → Symbol 42 t r → UpperAt t none r
  an_end : {n : ℕ} {r : List ℕ} → Number t n r → UpperAt t (upto n) r

abbrev pub whole : Interval
whole = record { lower = 0; upper = none }

-- bounds behind their `[`
pub record Inside (t : List ℕ) (I : Interval) (r : List ℕ) : Type 0 where
  pub t₂ : List ℕ
  pub t₃ : List ℕ
  pub t₄ : List ℕ
  pub from : Number t I.lower t₂
  pub comma : Symbol 44 t₂ t₃
  pub to : UpperAt t₃ I.upper t₄
  pub closes : Symbol 93 t₄ r

-- bounds are absent where no `[` follows
pub data BoundsAt (t : List ℕ) : Interval → List ℕ → Type 0 where
  absent : ((r : List ℕ) → Symbol 91 t r → ⊥) → BoundsAt t whole t
  given : {I : Interval} {u r : List ℕ} → Symbol 91 t u → Inside u I r → BoundsAt t I r

-- the forms of one symbol: `1`, `0`, and a letter from a to p
pub data Plain (c : ℕ) : Form → Type 0 where
  is_one : c ≡ 49 → Plain c top
  is_zero : c ≡ 48 → Plain c bottom
  is_fact : {p : ℕ} → p < 16 → c ≡ 97 + p → Plain c (fact p)

-- `X`, `Y`, `F` and `G`
abbrev pub timing_sign : Timing → ℕ
timing_sign Next = 88
timing_sign DualNext = 89
timing_sign Eventually = 70
timing_sign Always = 71

abbrev pub timed : Timing → Interval → Form → Form
timed Next I f = next I f
timed DualNext I f = dual_next I f
timed Eventually I f = eventually I f
timed Always I f = always I f

-- `&`, `|`, `>`, `U` and `R`
abbrev pub joining_sign : Joining → ℕ
joining_sign Both = 38
joining_sign Either = 124
joining_sign Implies = 62
joining_sign Until = 85
joining_sign Release = 82

abbrev pub joined : Joining → Interval → Form → Form → Form
joined Both I f g = both f g
joined Either I f g = either f g
joined Implies I f g = implies f g
joined Until I f g = until I f g
joined Release I f g = release I f g

-- only `U` and `R` take bounds
abbrev pub JoiningBounds : Joining → List ℕ → Interval → List ℕ → Type 0
JoiningBounds Both t I r = (I ≡ whole) × (t ≡ r)
JoiningBounds Either t I r = (I ≡ whole) × (t ≡ r)
JoiningBounds Implies t I r = (I ≡ whole) × (t ≡ r)
JoiningBounds Until t I r = BoundsAt t I r
JoiningBounds Release t I r = BoundsAt t I r

pub record JoiningAt (t : List ℕ) (o : Joining) (I : Interval) (r : List ℕ) : Type 0 where
  pub after : List ℕ
  pub sign : Symbol (joining_sign o) t after
  pub bounds : JoiningBounds o after I r

-- the text t begins with the form f, and r is left
pub data FormAt : List ℕ → Form → List ℕ → Type 0 where
  plain_at : {t r : List ℕ} {c : ℕ} {f : Form} → Symbol c t r → Plain c f → FormAt t f r
  opposite_at : {t u r : List ℕ} {f : Form} → Symbol 33 t u → FormAt u f r → FormAt t (opposite f) r
  timed_at : {t u v r : List ℕ} {I : Interval} {f : Form} (o : Timing) → Symbol (timing_sign o) t u → BoundsAt u I v → FormAt v f r → FormAt t (timed o I f) r
  pair_at : {t u v w x r : List ℕ} {I : Interval} {f g : Form} (o : Joining) → Symbol 40 t u → FormAt u f v → JoiningAt v o I w → FormAt w g x → Symbol 41 x r → FormAt t (joined o I f g) r

-- a pair behind its `(`
pub record PairAt (u : List ℕ) (g : Form) (s : List ℕ) : Type 0 where
  pub o : Joining
  pub interval : Interval
  pub f₁ : Form
  pub f₂ : Form
  pub v : List ℕ
  pub w : List ℕ
  pub x : List ℕ
  pub left : FormAt u f₁ v
  pub joins : JoiningAt v o interval w
  pub right : FormAt w f₂ x
  pub closes : Symbol 41 x s
  pub is : g ≡ joined o interval f₁ f₂

-- the text is the form f, and no more
pub record Reads (t : List ℕ) (f : Form) : Type 0 where
  pub rest : List ℕ
  pub form : FormAt t f rest
  pub ends : skip rest ≡ []

abbrev pub Unambiguous : Type 0
Unambiguous = (t : List ℕ) (f g : Form) → Reads t f → Reads t g → f ≡ g
