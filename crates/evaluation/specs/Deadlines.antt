-- The clock reading above which a clause is decided, whatever its other parts say.
use Rattle.std.specs.Prelude.{min, max, Bool, true, false, cond, not}
use Rattle.semantics.specs.Forms.{Upper, none, upto}
use Rattle.semantics.specs.Automata.{Clause, accept, reject, holds, fails, and, or, in_interval, out_of_interval, at_most, above, reset, jump}

-- the earlier of two deadlines, where none is never
abbrev pub sooner : Upper → Upper → Upper
sooner none v = v
sooner (upto u) none = upto u
sooner (upto u) (upto v) = upto (min u v)

-- and the later
abbrev pub later : Upper → Upper → Upper
later none v = none
later (upto u) none = none
later (upto u) (upto v) = upto (max u v)

-- of both parts, or of either
abbrev pub combined : Bool → Upper → Upper → Upper
combined true = later
combined false = sooner

-- none where the test holds
abbrev pub unless : Bool → Upper → Upper
unless b u = cond b none u

-- the deadline behind which a clause is highest (true) or lowest (false). Behind the end of a window no clock is in it;
-- a meet is highest once both its parts are and lowest once either is, and a join the other way round
unfoldable pub deadline : Bool → Clause → Upper
deadline v accept = none
deadline v reject = none
deadline v (holds p) = none
deadline v (fails p) = none
deadline v (and c d) = combined v (deadline v c) (deadline v d)
deadline v (or c d) = combined (not v) (deadline v c) (deadline v d)
deadline v (in_interval I) = unless v I.upper
deadline v (out_of_interval I) = unless (not v) I.upper
deadline v (at_most u) = unless v u
deadline v (above u) = unless (not v) u
deadline v (reset c) = none
deadline v (jump l) = none
