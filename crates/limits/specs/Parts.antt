-- The parts of a table's entry.
use Rattle.std.specs.Prelude.{ℕ, ◌<◌, Bool, true, ◌&&◌, List, [], ◌∷◌, length, Some, None, Option, slice_index_or}
use Rattle.semantics.specs.Forms as meaning
use Rattle.tables.specs.Intervals.{interval_of}
use Rattle.tables.specs.declared.interval.Interval.{Interval}
use Rattle.tables.specs.declared.node.Node.{Node}
use Rattle.tables.specs.declared.node.Node.TheVariants.{Top, Bottom, Fact, Opposite, Both, Either, Implies, Next, DualNext, Eventually, Always, Until, Release}
use Rattle.limits.specs.declared.parts.Parts.{Parts}
use Rattle.limits.specs.declared.parts.Parts.TheVariants.{Nothing, One, Two}

-- the forms directly inside
abbrev pub node_parts : Node → Parts
node_parts Top = Nothing
node_parts Bottom = Nothing
node_parts (Fact p) = Nothing
node_parts (Opposite i) = One i
node_parts (Both i j) = Two i j
node_parts (Either i j) = Two i j
node_parts (Implies i j) = Two i j
node_parts (Next I i) = One i
node_parts (DualNext I i) = One i
node_parts (Eventually I i) = One i
node_parts (Always I i) = One i
node_parts (Until I i j) = Two i j
node_parts (Release I i j) = Two i j

-- the interval, if there is one
abbrev pub node_interval : Node → Option Interval
node_interval Top = None
node_interval Bottom = None
node_interval (Fact p) = None
node_interval (Opposite i) = None
node_interval (Both i j) = None
node_interval (Either i j) = None
node_interval (Implies i j) = None
node_interval (Next I i) = Some I
node_interval (DualNext I i) = Some I
node_interval (Eventually I i) = Some I
node_interval (Always I i) = Some I
node_interval (Until I i j) = Some I
node_interval (Release I i j) = Some I

-- all parts have numbers below b
abbrev pub Below : ℕ → Parts → Type 0
Below b Nothing = Unit {0}
Below b (One i) = i < b
Below b (Two i j) = (i < b) × (j < b)

-- each entry of a table names earlier ones only
abbrev pub Earlier : List Node → Type 0
Earlier ns = (i : ℕ) → i < length ns → Below i (node_parts (slice_index_or ns i Top))

abbrev pub passes : (meaning.Interval → Bool) → Option Interval → Bool
passes p None = true
passes p (Some I) = p (interval_of I)

-- a test holds of each interval of a table
unfoldable pub every_node : (meaning.Interval → Bool) → List Node → Bool
every_node p [] = true
every_node p (n ∷ ns) = passes p (node_interval n) && every_node p ns
