-- What the reader holds of a number, of bounds and of an operator.
use Rattle.std.specs.Prelude.{◌≡◌, ℕ, min, List, ◌++◌, Some, None, Option}
use Rattle.semantics.specs.Forms as meaning
use Rattle.tables.specs.declared.interval.Interval.{Interval}
use Rattle.grammar.specs.declared.operator.Joining.{Joining}
use Rattle.grammar.specs.Grammar.{Number, UpperAt, Inside, BoundsAt, JoiningAt, Digits, NoDigit, decimal}

-- a number, or, past a thousand million, one more than that
abbrev pub cap : ℕ → ℕ
cap n = min n 1000000001

abbrev pub kept_upper : meaning.Upper → Option ℕ
kept_upper meaning.Upper.none = None
kept_upper (meaning.Upper.upto n) = Some (cap n)

-- an interval as it is held
abbrev pub kept : meaning.Interval → Interval
kept I = record { lower = cap I.lower; upper = kept_upper I.upper }

-- v stands for the digits between t and r
pub record Passed (t : List ℕ) (v : ℕ) (r : List ℕ) : Type 0 where
  pub digits : List ℕ
  pub begins : t ≡ digits ++ r
  pub all : Digits digits
  pub value : v ≡ cap (decimal digits)

-- and no digit is left
pub record Run (t : List ℕ) (v : ℕ) (r : List ℕ) : Type 0 where
  pub passed : Passed t v r
  pub ends : NoDigit r

pub record NumberRead (t : List ℕ) (v : ℕ) (r : List ℕ) : Type 0 where
  pub n : ℕ
  pub reads : Number t n r
  pub value : v ≡ cap n

pub record UpperRead (t : List ℕ) (v : Option ℕ) (r : List ℕ) : Type 0 where
  pub n : meaning.Upper
  pub reads : UpperAt t n r
  pub value : v ≡ kept_upper n

pub record ClosedRead (t : List ℕ) (b : Interval) (r : List ℕ) : Type 0 where
  pub I : meaning.Interval
  pub reads : Inside t I r
  pub value : b ≡ kept I

pub record BoundsRead (t : List ℕ) (b : Interval) (r : List ℕ) : Type 0 where
  pub I : meaning.Interval
  pub reads : BoundsAt t I r
  pub value : b ≡ kept I

pub record JoiningRead (t : List ℕ) (o : Joining) (b : Interval) (r : List ℕ) : Type 0 where
  pub I : meaning.Interval
  pub reads : JoiningAt t o I r
  pub value : b ≡ kept I
