-- What the limits of a rule are about: the depth of a form, and its intervals.
use Rattle.std.specs.Prelude.{ℕ, ◌+◌, max, Bool, true, false, not, ◌&&◌, ◌||◌, ◌==◌, nat_le, nat_lt}
use Rattle.semantics.specs.Forms.{Upper, none, upto, Interval, Form, top, bottom, fact, opposite, both, either, implies, next, dual_next, eventually, always, until, release}

-- one more than the greatest depth directly inside, and 1 for a form with none inside
unfoldable pub depth : Form → ℕ
depth top = 1
depth bottom = 1
depth (fact p) = 1
depth (opposite f) = depth f + 1
depth (both f g) = max (depth f) (depth g) + 1
depth (either f g) = max (depth f) (depth g) + 1
depth (implies f g) = max (depth f) (depth g) + 1
depth (next I f) = depth f + 1
depth (dual_next I f) = depth f + 1
depth (eventually I f) = depth f + 1
depth (always I f) = depth f + 1
depth (until I f g) = max (depth f) (depth g) + 1
depth (release I f g) = max (depth f) (depth g) + 1

-- a test holds of each interval of a form
unfoldable pub every : (Interval → Bool) → Form → Bool
every p top = true
every p bottom = true
every p (fact q) = true
every p (opposite f) = every p f
every p (both f g) = every p f && every p g
every p (either f g) = every p f && every p g
every p (implies f g) = every p f && every p g
every p (next I f) = every p f && p I
every p (dual_next I f) = every p f && p I
every p (eventually I f) = every p f && p I
every p (always I f) = every p f && p I
every p (until I f g) = every p f && (every p g && p I)
every p (release I f g) = every p f && (every p g && p I)

abbrev pub small_upper : Upper → Bool
small_upper none = true
small_upper (upto n) = nat_le n 1000000000

-- no number exceeds 1,000,000,000
abbrev pub small : Interval → Bool
small I = nat_le I.lower 1000000000 && small_upper I.upper

-- the lower end l is above the upper, or equal to it and not 0
abbrev pub crossed : ℕ → Upper → Bool
crossed l none = false
crossed l (upto u) = nat_lt u l || (l == u && not (l == 0))

abbrev pub proper : Interval → Bool
proper I = not (crossed I.lower I.upper)
