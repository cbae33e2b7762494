-- The front of a list, as a slice pattern reads it.
use Rattle.std.proofs.Common.{◌≡◌, ℕ, ◌-◌, ◌≤◌, List, [], ◌∷◌, length, get_or, take, drop, sym, refl, ap, arith}
use Rattle.grammar.specs.Grammar.{skip}
use Rattle.std.proofs.lemmas.List.{take_rest}
use Rattle.std.proofs.lemmas.Bool.{eq-eqb, ne_eqb}

pub uncons : (s : List ℕ) → 1 ≤ length s → s ≡ get_or s 0 0 ∷ take (length s - 1) (drop 1 s)
uncons [] h = absurd (omega arith)
uncons (c ∷ s) h = ap (λ l. c ∷ l) (sym (take_rest (c ∷ s) 1))

pub none : (s : List ℕ) → length s ≡ 0 → s ≡ []
none [] h = refl
none (c ∷ s) h = absurd (omega arith)

-- one space less
pub skip_space : (s : List ℕ) → 1 ≤ length s → get_or s 0 0 ≡ 32 → skip (take (length s - 1) (drop 1 s)) ≡ skip s
unfolding skip
skip_space [] h e = absurd (omega arith)
skip_space (c ∷ s) h e = rw (eq-eqb c 32 e) (ap skip (take_rest (c ∷ s) 1))

-- no space comes first
pub skip_none : (s : List ℕ) → length s ≡ 0 → skip s ≡ s
unfolding skip
skip_none [] h = refl
skip_none (c ∷ s) h = absurd (omega arith)

pub skip_other : (s : List ℕ) → 1 ≤ length s → (get_or s 0 0 ≡ 32 → ⊥) → skip s ≡ s
unfolding skip
skip_other [] h e = absurd (omega arith)
skip_other (c ∷ s) h e = rw (ne_eqb c 32 e)
