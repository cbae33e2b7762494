use borrow.Author.Tests.{tests}
use Rattle.std.proofs.Common.{◌∙◌, rules}
use Rattle.std.proofs.lemmas.Iterator.{YieldsList-from_slice, YieldsList-from_map}
use Rattle.std.proofs.lemmas.Iterator.Consumers.{sum_by_from_yields_List}
use Rattle.translation.specs.Building.{width_of}
use Rattle.translation.proofs.Passes.{widths_summed}
use Rattle.translation.proofs.automaton.total.Goals as goal

pub returns : goal.returns
returns c =
    sum_by_from_yields_List width_of c.args.normals.now c.map.result c.sum.result c.sum.ensures.ran
    (YieldsList-from_map _ width_of (YieldsList-from_slice c.args.normals.now cc) c.map.ensures.closure (λ x r q k. search (rules, tests)))
    ∙ widths_summed c.args.normals.now
