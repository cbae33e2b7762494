use borrow.Author.Tests.{tests}
use Rattle.std.proofs.Common.{◌≡◌, true, false, rules}
use Rattle.std.proofs.lemmas.Iterator.{cases_from_all, YieldsList-from_slice}
use Rattle.limits.specs.Parts.{node_interval, passes}
use Rattle.limits.specs.Limits.{proper}
use Rattle.limits.proofs.Tested.{every_told}
use Rattle.limits.proofs.intervals.all_proper.Goals as goal

pub returns : goal.returns
returns c =
    every_told proper _ _
    (cases_from_all _ _ _ (λ n. passes proper (node_interval n) ≡ true) (λ n. passes proper (node_interval n) ≡ false)
    c.all.ensures.ran (YieldsList-from_slice c.args.nodes.now cc) (λ n q k. search (rules, tests)) (λ n q k. search (rules, tests)))
