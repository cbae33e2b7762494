use Rattle.std.proofs.Common.{◌≡◌, ◌++◌}
use Rattle.reporting.specs.Listing.{lines, row}
use Rattle.reporting.proofs.listing.write_lines.Given as goal

abbrev pub invariant-loop-before : goal.invariant-loop-before
invariant-loop-before g l = l.page ≡ l.initial.page ++ lines (g.L.Log.events l.log) (row l.grades) l.before
