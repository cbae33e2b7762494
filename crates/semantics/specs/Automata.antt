-- One-clock alternating automata over graded facts, and the one that a normal form is translated into.
use Rattle.std.specs.Prelude.{ℕ, ◌+◌, Bool, true, false, List, [], ◌∷◌, ◌++◌}
use Rattle.semantics.specs.Forms.{Interval, Upper}
use Rattle.semantics.specs.Normals.{Normal, top, bottom, fact, opposed, both, either, next, dual_next, until, release, temporals}

-- clauses over facts by number, tests of the clock x, a reset of x, and a jump to a location by number
pub data Clause : Type 0 where
  accept reject : Clause
  holds fails : ℕ → Clause
  and or : Clause → Clause → Clause
  in_interval out_of_interval : Interval → Clause
  at_most above : Upper → Clause
  reset : Clause → Clause
  jump : ℕ → Clause

-- (reset right ∧ x in I) ∨ (reset left ∧ jump own ∧ x ≤ sup I)
abbrev pub until_clause : Interval → ℕ → Clause → Clause → Clause
until_clause I own left right =
    or (and (reset right) (in_interval I)) (and (and (reset left) (jump own)) (at_most I.upper))

-- (reset right ∨ x out of I) ∧ (reset left ∨ jump own ∨ x > sup I)
abbrev pub release_clause : Interval → ℕ → Clause → Clause → Clause
release_clause I own left right =
    and (or (reset right) (out_of_interval I)) (or (or (reset left) (jump own)) (above I.upper))

-- x in I ∧ reset inner
abbrev pub next_clause : Interval → Clause → Clause
next_clause I inner = and (in_interval I) (reset inner)

-- x out of I ∨ reset inner
abbrev pub dual_next_clause : Interval → Clause → Clause
dual_next_clause I inner = or (out_of_interval I) (reset inner)

-- the clause of a form whose locations are numbered from k + 1
unfoldable pub transition : ℕ → Normal → Clause
transition k top = accept
transition k bottom = reject
transition k (fact p) = holds p
transition k (opposed p) = fails p
transition k (both f g) = and (transition k f) (transition (k + temporals f) g)
transition k (either f g) = or (transition k f) (transition (k + temporals f) g)
transition k (next I f) = reset (jump (k + temporals f + 1))
transition k (dual_next I f) = reset (jump (k + temporals f + 1))
transition k (until I f g) =
    until_clause I (k + temporals f + temporals g + 1) (transition k f) (transition (k + temporals f) g)
transition k (release I f g) =
    release_clause I (k + temporals f + temporals g + 1) (transition k f) (transition (k + temporals f) g)

-- a location: its clause, and whether it is final
pub record Location : Type 0 where
  pub root : Clause
  pub final : Bool

-- the locations of a form, numbered from k + 1
unfoldable pub locations_of : ℕ → Normal → List Location
locations_of k top = []
locations_of k bottom = []
locations_of k (fact p) = []
locations_of k (opposed p) = []
locations_of k (both f g) = locations_of k f ++ locations_of (k + temporals f) g
locations_of k (either f g) = locations_of k f ++ locations_of (k + temporals f) g
locations_of k (next I f) = locations_of k f ++ (record { root = next_clause I (transition k f); final = false } ∷ [])
locations_of k (dual_next I f) = locations_of k f ++ (record { root = dual_next_clause I (transition k f); final = true } ∷ [])
locations_of k (until I f g) =
    locations_of k f ++ (locations_of (k + temporals f) g ++ (record { root = transition k (until I f g); final = false } ∷ []))
locations_of k (release I f g) =
    locations_of k f ++ (locations_of (k + temporals f) g ++ (record { root = transition k (release I f g); final = true } ∷ []))

-- location 0, which starts the clock, and then one for each temporal form in order
abbrev pub automaton : Normal → List Location
automaton f = record { root = reset (transition 0 f); final = false } ∷ locations_of 0 f

-- what stands where there is no location
abbrev pub nowhere : Location
nowhere = record { root = reject; final = false }
