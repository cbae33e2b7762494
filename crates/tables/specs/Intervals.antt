-- The intervals of the code as those of the meaning.
use Rattle.std.specs.Prelude.{ℕ, Some, None, Option}
use Rattle.semantics.specs.Forms as meaning
use Rattle.tables.specs.declared.interval.Interval.{Interval}

abbrev pub upper_of : Option ℕ → meaning.Upper
upper_of None = meaning.Upper.none
upper_of (Some n) = meaning.Upper.upto n

abbrev pub interval_of : Interval → meaning.Interval
interval_of I = record { lower = I.lower; upper = upper_of I.upper }
