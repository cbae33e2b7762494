-- The value of a location with a start at an event: its clock is the time of the event less the time of the start.
use Rattle.std.specs.Prelude.{ℕ, zero, suc, ◌-◌, Bool, cond, not, List, slice_index_or}
use Rattle.scales.specs.Scales.{Ops}
use Rattle.semantics.specs.Words.{Word, elapsed}
use Rattle.semantics.specs.Forms.{inside, within_upper}
use Rattle.semantics.specs.Normals.{Normal}
use Rattle.semantics.specs.Automata.{
  Clause,
  accept,
  reject,
  holds,
  fails,
  and,
  or,
  in_interval,
  out_of_interval,
  at_most,
  above,
  reset,
  jump,
  Location,
  automaton,
  nowhere,
}

-- highest if a test holds, and lowest if not
abbrev pub test : {G : Type 0} → Ops G → Bool → G
test S b = cond b S.high S.low

module _ {G : Type 0} (S : Ops G) (w : Word G) where
  -- the value of a clause with start s at event i, where `on l s` is the value of location l with start s at the next event
  unfoldable pub clause_value : (ℕ → ℕ → G) → ℕ → ℕ → Clause → G
  clause_value on s i accept = S.high
  clause_value on s i reject = S.low
  clause_value on s i (holds p) = w.fact p i
  clause_value on s i (fails p) = S.opposite (w.fact p i)
  clause_value on s i (and c d) = S.meet (clause_value on s i c) (clause_value on s i d)
  clause_value on s i (or c d) = S.join (clause_value on s i c) (clause_value on s i d)
  clause_value on s i (in_interval I) = test S (inside I (elapsed w s i))
  clause_value on s i (out_of_interval I) = test S (not (inside I (elapsed w s i)))
  clause_value on s i (at_most u) = test S (within_upper u (elapsed w s i))
  clause_value on s i (above u) = test S (not (within_upper u (elapsed w s i)))
  clause_value on s i (reset c) = clause_value on i i c
  clause_value on s i (jump l) = on l s

  -- over a boundary: `after l s` stands for location l with start s behind the last event
  module _ (A : List Location) (after : ℕ → ℕ → G) where
    -- the value of location l with start s at the k-th event from the end: 1 is the last, and 0 is behind it
    unfoldable pub value_before : ℕ → ℕ → ℕ → G
    value_before zero l s = after l s
    value_before (suc k) l s = clause_value (value_before k) s (w.count - k) (slice_index_or A l nowhere).root

    -- the value of location l with start s at event i
    abbrev pub value : ℕ → ℕ → ℕ → G
    value l s i = value_before (suc w.count - i) l s

-- the boundary of a run: highest for a final location, lowest for another
abbrev pub run_boundary : {G : Type 0} → Ops G → List Location → ℕ → ℕ → G
run_boundary S A l s = test S (slice_index_or A l nowhere).final

module _ {G : Type 0} (S : Ops G) (w : Word G) (f : Normal) where
  -- what the run of f's automaton has at location l with start s at event i
  abbrev pub run_value : ℕ → ℕ → ℕ → G
  run_value = value S w (automaton f) (run_boundary S (automaton f))

  -- the value of f at event i with every location lowest behind the last event
  abbrev pub floor : ℕ → G
  floor i = value S w (automaton f) (λ _ _. S.low) 0 i i

  -- and with every location highest
  abbrev pub ceiling : ℕ → G
  ceiling i = value S w (automaton f) (λ _ _. S.high) 0 i i
