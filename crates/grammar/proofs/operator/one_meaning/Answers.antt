use Rattle.grammar.proofs.Unique.{unambiguous}
use Rattle.grammar.proofs.operator.one_meaning.Goals as goal

pub returns : goal.returns
returns c = unambiguous
