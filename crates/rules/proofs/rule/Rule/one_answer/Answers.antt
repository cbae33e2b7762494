use Rattle.rules.proofs.Judged.{one_answer}
use Rattle.rules.proofs.rule.Rule.one_answer.Goals as goal

pub returns : goal.returns
returns c = one_answer
