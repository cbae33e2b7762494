-- A clause with a start before the event, as a function of the clock and of one grade: its location's value at the next event.
use Rattle.std.specs.Prelude.{ℕ, ◌-◌, cond, not, nat_le, nat_lt}
use Rattle.scales.specs.Scales.{Ops}
use Rattle.semantics.specs.Forms.{Interval, Upper, none, upto, inside, within_upper}
use Rattle.semantics.specs.Automata.{Clause, accept, reject, holds, fails, and, or, in_interval, out_of_interval, at_most, above, reset, jump}
use Rattle.semantics.specs.Values.{test}
use Rattle.evaluation.specs.Deadlines.{sooner}

-- where `fresh` is the value of a clause whose start is the event itself
module _ {G : Type 0} (S : Ops G) (fresh : Clause → G) (clock : ℕ) (next : G) where
  unfoldable pub own_value : Clause → G
  own_value accept = fresh accept
  own_value reject = fresh reject
  own_value (holds p) = fresh (holds p)
  own_value (fails p) = fresh (fails p)
  own_value (and c d) = S.meet (own_value c) (own_value d)
  own_value (or c d) = S.join (own_value c) (own_value d)
  own_value (in_interval I) = test S (inside I clock)
  own_value (out_of_interval I) = test S (not (inside I clock))
  own_value (at_most u) = test S (within_upper u clock)
  own_value (above u) = test S (not (within_upper u clock))
  own_value (reset c) = fresh c
  own_value (jump l) = next

-- the last clock reading up to which a test of an upper end comes out as at x
abbrev pub end_from : ℕ → Upper → Upper
end_from x none = none
end_from x (upto u) = cond (nat_le x u) (upto u) none

-- and a test of an interval
abbrev pub window_from : ℕ → Interval → Upper
window_from x I = cond (nat_lt x I.lower) (upto (I.lower - 1)) (end_from x I.upper)

-- and all tests of a clause with its own start
unfoldable pub horizon : ℕ → Clause → Upper
horizon x accept = none
horizon x reject = none
horizon x (holds p) = none
horizon x (fails p) = none
horizon x (and c d) = sooner (horizon x c) (horizon x d)
horizon x (or c d) = sooner (horizon x c) (horizon x d)
horizon x (in_interval I) = window_from x I
horizon x (out_of_interval I) = window_from x I
horizon x (at_most u) = end_from x u
horizon x (above u) = end_from x u
horizon x (reset c) = none
horizon x (jump l) = none
