-- What a call does that has bytes to write, and takes some of the grades that are lent to it.
use Rattle.std.specs.Prelude.{◌≡◌, ℕ, cond, List, ◌++◌, length, drop, replicate, Some, None, Option, Result, MatchResult, nat_lt}
use Rattle.refusals.specs.declared.refusal.Refusal.{Refusal}
use Rattle.refusals.specs.declared.refusal.Refusal.TheVariants.{MemoryTooShort, OutputTooShort}
use Rattle.scales.specs.declared.doubt.Doubt.{Doubt}
use Rattle.scales.specs.declared.doubt.Doubt.TheVariants.{No}
use Rattle.reporting.specs.Reports.{Reports}

-- why it is turned down, if it is: fewer grades than needed, and only then too few places for the bytes
abbrev pub report_refusal : ℕ → ℕ → ℕ → ℕ → Option Refusal
report_refusal need grades long room = cond (nat_lt grades need) (Some MemoryTooShort) (cond (nat_lt room long) (Some OutputTooShort) None)

-- the bytes to write, the grades needed, the grades before and after, and the output before and after
module _ (bytes : List ℕ) (need : ℕ) (old new : List Doubt) (before after : List ℕ) where
  -- it answered n
  pub record Delivered (n : ℕ) : Type 0 where
    -- no refusal applies
    pub accepted : report_refusal need (length old) (length bytes) (length before) ≡ None
    -- n is how many bytes there are
    pub long : n ≡ length bytes
    -- they stand at the front of the output, and what is behind stays
    pub out : after ≡ bytes ++ drop n before
    -- the grades that were needed are lowest, and the others as they were
    pub cleared : new ≡ replicate need No ++ drop need old

  -- it was turned down
  pub record Undelivered (reason : Refusal) : Type 0 where
    -- for the first reason that applies
    pub first : report_refusal need (length old) (length bytes) (length before) ≡ Some reason
    -- nothing was written, and no grade changed
    pub out : after ≡ before
    pub kept : new ≡ old

  abbrev pub Delivery : Result ℕ Refusal → Type 0
  Delivery r = MatchResult r Delivered Undelivered

-- the call delivered the report of the text and the file, or was turned down
pub record Reported (text file : List ℕ) (old new : List Doubt) (before after : List ℕ) (r : Result ℕ Refusal) : Type 0 where
  -- the bytes of the report, and the grades that it takes
  pub bytes : List ℕ
  pub need : ℕ
  pub reports : Reports text file bytes need
  -- what became of it
  pub delivery : Delivery bytes need old new before after r
