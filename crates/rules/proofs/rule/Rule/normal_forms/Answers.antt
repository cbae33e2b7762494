use Rattle.std.proofs.Common.{◌∙◌}
use Rattle.rules.proofs.Facts.{normals_counted}
use Rattle.rules.proofs.rule.Rule.normal_forms.Goals as goal

pub returns : goal.returns
returns c = c.len.ensures.is ∙ normals_counted c.args.self.now
