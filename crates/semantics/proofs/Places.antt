-- Where the locations of a form stand in the automaton.
use Rattle.std.proofs.Common.{◌≡◌, ℕ, suc, ◌+◌, List, ◌++◌, length, get_or, refl, ap, ◌∙◌, ap₂, arith, length-append}
use Rattle.semantics.specs.Normals.{Normal, top, bottom, fact, opposed, both, either, next, dual_next, until, release, temporal_forms, temporals}
use Rattle.semantics.specs.Automata.{Location, locations_of, automaton, nowhere}
use Rattle.semantics.proofs.Indexed.{All, all_split, all_of}

-- x is location l + 1 of A
abbrev pub Stands : List Location → ℕ → Location → Type 0
Stands A l x = get_or A (l + 1) nowhere ≡ x

-- the locations of f stand in A behind location k
abbrev pub Placed : List Location → ℕ → Normal → Type 0
Placed A k f = All (Stands A) k (locations_of k f)

pub length-locations : (f : Normal) (k : ℕ) → length (locations_of k f) ≡ temporals f
unfolding locations_of temporals
length-locations top k = refl
length-locations bottom k = refl
length-locations (fact p) k = refl
length-locations (opposed p) k = refl
length-locations (both f g) k = length-append _ _ ∙ ap₂ ◌+◌ (length-locations f k) (length-locations g _)
length-locations (either f g) k = length-append _ _ ∙ ap₂ ◌+◌ (length-locations f k) (length-locations g _)
length-locations (next I f) k = length-append _ _ ∙ ap (λ n. n + 1) (length-locations f k)
length-locations (dual_next I f) k = length-append _ _ ∙ ap (λ n. n + 1) (length-locations f k)
length-locations (until I f g) k = simp (length-append, length-locations f k, length-locations g) (omega arith)
length-locations (release I f g) k = simp (length-append, length-locations f k, length-locations g) (omega arith)

-- the locations of f, and what stands behind them
pub placed_split : (A : List Location) (k : ℕ) (f : Normal) (rest : List Location) → All (Stands A) k (locations_of k f ++ rest) →
    Placed A k f × All (Stands A) (k + temporals f) rest
placed_split A k f rest = all_split (Stands A) (locations_of k f) rest k _ (length-locations f k)

pub automaton_placed : (f : Normal) → Placed (automaton f) 0 f
automaton_placed f = all_of (Stands (automaton f)) (locations_of 0 f) 0 nowhere (λ i p. let e : 0 + i + 1 ≡ suc i = omega arith in rw e)

-- each temporal form has one location
pub length-temporals : (f : Normal) → length (temporal_forms f) ≡ temporals f
unfolding temporal_forms temporals
length-temporals top = refl
length-temporals bottom = refl
length-temporals (fact p) = refl
length-temporals (opposed p) = refl
length-temporals (both f g) = length-append _ _ ∙ ap₂ ◌+◌ (length-temporals f) (length-temporals g)
length-temporals (either f g) = length-append _ _ ∙ ap₂ ◌+◌ (length-temporals f) (length-temporals g)
length-temporals (next I f) = length-append _ _ ∙ ap (λ n. n + 1) (length-temporals f)
length-temporals (dual_next I f) = length-append _ _ ∙ ap (λ n. n + 1) (length-temporals f)
length-temporals (until I f g) = simp (length-append, length-temporals f, length-temporals g) (omega arith)
length-temporals (release I f g) = simp (length-append, length-temporals f, length-temporals g) (omega arith)
