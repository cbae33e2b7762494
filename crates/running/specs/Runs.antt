-- Why a run and an outlook are turned down.
use Rattle.std.specs.Prelude.{ℕ, cond, ◌&&◌, Some, None, Option, nat_le, nat_lt}
use Rattle.refusals.specs.declared.refusal.Refusal.{Refusal}
use Rattle.refusals.specs.declared.refusal.Refusal.TheVariants.{MemoryTooShort, EventAbsent}
use Rattle.evaluation.specs.RuleEvaluations.{memory_refusal}
pub use Rattle.evaluation.specs.RuleEvaluations.{Refused}

-- why a run that needs so many of m grades is turned down, if it is
abbrev pub run_refusal : ℕ → ℕ → Option Refusal
run_refusal need m = memory_refusal need m

-- why an outlook at an event, of n, is
abbrev pub outlook_refusal : ℕ → ℕ → ℕ → ℕ → Option Refusal
outlook_refusal need m n event = cond (nat_lt m need) (Some MemoryTooShort) (cond (nat_le 1 event && nat_le event n) None (Some EventAbsent))
