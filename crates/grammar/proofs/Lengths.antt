-- What is left is shorter.
use Rattle.std.proofs.Common.{ℕ, ◌<◌, ◌≤◌, true, false, cond, eqb, List, [], ◌∷◌, length, ap, ◌∙◌, arith, length-append}
use Rattle.grammar.specs.declared.operator.Joining.{Joining}
use Rattle.grammar.specs.declared.operator.Joining.TheVariants.{Both, Either, Implies, Until, Release}
use Rattle.semantics.specs.Forms.{Upper, Interval}
use Rattle.grammar.specs.Grammar.{skip, Symbol, Number, UpperAt, no_end, an_end, BoundsAt, absent, given, JoiningBounds, JoiningAt}

pub skip_length : (t : List ℕ) → length (skip t) ≤ length t
unfolding skip
skip_length [] = omega arith
skip_length (c ∷ t) =
    let h = skip_length t in
    elim (eqb c 32) as (λ b. length (cond b (skip t) (c ∷ t)) ≤ length (c ∷ t)) [ true ↦ omega arith | false ↦ omega arith ]

pub symbol_shorter : {c : ℕ} {t r : List ℕ} → Symbol c t r → length r < length t
symbol_shorter {t = t} x = omega (arith, ap length x.starts, skip_length t)

number_shorter : {n : ℕ} {t r : List ℕ} → Number t n r → length r ≤ length t
number_shorter {t = t} {r = r} x = omega (arith, ap length x.begins ∙ length-append x.digits r, skip_length t)

upper_shorter : {n : Upper} {t r : List ℕ} → UpperAt t n r → length r ≤ length t
upper_shorter (no_end x) = omega (arith, symbol_shorter x)
upper_shorter (an_end x) = number_shorter x

pub bounds_shorter : {I : Interval} {t r : List ℕ} → BoundsAt t I r → length r ≤ length t
bounds_shorter (absent p) = omega arith
bounds_shorter (given x b) = omega (arith, symbol_shorter x, number_shorter b.from, symbol_shorter b.comma, upper_shorter b.to, symbol_shorter b.closes)

joining_bounds_shorter : (o : Joining) (I : Interval) (t r : List ℕ) → JoiningBounds o t I r → length r ≤ length t
joining_bounds_shorter Both I t r b = omega (arith, ap length b.1)
joining_bounds_shorter Either I t r b = omega (arith, ap length b.1)
joining_bounds_shorter Implies I t r b = omega (arith, ap length b.1)
joining_bounds_shorter Until I t r b = bounds_shorter b
joining_bounds_shorter Release I t r b = bounds_shorter b

pub joining_shorter : {o : Joining} {I : Interval} {t r : List ℕ} → JoiningAt t o I r → length r < length t
joining_shorter {o = o} {I = I} {r = r} x = omega (arith, symbol_shorter x.sign, joining_bounds_shorter o I x.after r x.bounds)
