use Rattle.std.proofs.Common.{ap, ◌∙◌}
use Rattle.semantics.specs.Words.{word}
use Rattle.semantics.specs.Normals.{normal_grade}
use Rattle.semantics.specs.Values.{value, run_boundary}
use Rattle.semantics.proofs.Theorems.{normal_same, agreement}
use Rattle.rules.specs.Rules.{form_of_rule}
use Rattle.rules.proofs.Facts.{normal_is, automaton_is}
use Rattle.rules.proofs.rule.Rule.means.Goals as goal

pub returns : goal.returns
returns g c =
    let S = g.S.Scale.ops in
    let L = g.met.S.Scale.laws in
    let R = c.args.self.now in
    record {
      normal = λ es i. ap (λ f. normal_grade S (word S es) f i) (normal_is R) ∙ normal_same S L es (form_of_rule R) i;
      automaton = λ es h i p q. ap (λ A. value S (word S es) A (run_boundary S A) 0 i i) (automaton_is R) ∙ agreement S L es h (form_of_rule R) i p q;
    }
