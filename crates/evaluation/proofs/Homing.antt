-- With its own start, each location of an automaton jumps to itself alone.
use Rattle.std.proofs.Common.{◌≡◌, ℕ, suc, ◌+◌, ◌<◌, length, get_or, subst, arith}
use Rattle.semantics.specs.Normals.{Normal, top, bottom, fact, opposed, both, either, next, dual_next, until, release, temporals}
use Rattle.semantics.specs.Automata.{Location, transition, locations_of, automaton, nowhere}
use Rattle.semantics.proofs.Indexed.{All, all_append, all_at}
use Rattle.semantics.proofs.Places.{length-locations}
use Rattle.evaluation.proofs.Soundness.{Homes}

abbrev AtHome : ℕ → Location → Type 0
AtHome l x = Homes l x.root

located_home : (f : Normal) (k : ℕ) → All AtHome (suc k) (locations_of k f)
unfolding locations_of transition
located_home top k = tt
located_home bottom k = tt
located_home (fact p) k = tt
located_home (opposed p) k = tt
located_home (both f g) k =
    let e : suc k + temporals f ≡ suc (k + temporals f) = omega arith in
    all_append AtHome _ _ (suc k) _ (length-locations f k) (located_home f k) (rw e (located_home g (k + temporals f)))
located_home (either f g) k =
    let e : suc k + temporals f ≡ suc (k + temporals f) = omega arith in
    all_append AtHome _ _ (suc k) _ (length-locations f k) (located_home f k) (rw e (located_home g (k + temporals f)))
located_home (next I f) k = all_append AtHome _ _ (suc k) _ (length-locations f k) (located_home f k) ((tt, tt), tt)
located_home (dual_next I f) k = all_append AtHome _ _ (suc k) _ (length-locations f k) (located_home f k) ((tt, tt), tt)
located_home (until I f g) k =
    let e : suc k + temporals f ≡ suc (k + temporals f) = omega arith in
    all_append AtHome _ _ (suc k) _ (length-locations f k) (located_home f k) (rw e
    (all_append AtHome _ _ (suc (k + temporals f)) _ (length-locations g (k + temporals f)) (located_home g (k + temporals f)) (((tt, tt), ((tt, omega arith), tt)), tt)))
located_home (release I f g) k =
    let e : suc k + temporals f ≡ suc (k + temporals f) = omega arith in
    all_append AtHome _ _ (suc k) _ (length-locations f k) (located_home f k) (rw e
    (all_append AtHome _ _ (suc (k + temporals f)) _ (length-locations g (k + temporals f)) (located_home g (k + temporals f)) (((tt, tt), ((tt, omega arith), tt)), tt)))

pub automaton_home : (f : Normal) (l : ℕ) → l < length (automaton f) → Homes l (get_or (automaton f) l nowhere).root
automaton_home f l h =
    let e : 0 + l ≡ l = omega arith in
    subst (λ k. Homes k (get_or (automaton f) l nowhere).root) e (all_at AtHome (automaton f) 0 nowhere (tt, located_home f 0) l h)
