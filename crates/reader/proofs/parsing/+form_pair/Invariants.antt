use Rattle.std.proofs.Common.{◌+◌, ◌*◌, length}
use Rattle.reader.proofs.parsing.+form_pair.Given as goal

abbrev pub decreases-form : goal.decreases-form
decreases-form l = 2 * length l.text.now

abbrev pub decreases-pair : goal.decreases-pair
decreases-pair l = 2 * length l.text.now + 1
