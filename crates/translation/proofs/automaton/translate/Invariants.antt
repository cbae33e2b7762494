use Rattle.std.proofs.Common.{◌≡◌, take}
use Rattle.translation.specs.Building.{started, written_on}
use Rattle.translation.proofs.automaton.translate.Given as goal

abbrev pub invariant-loop-node : goal.invariant-loop-node
invariant-loop-node l = l.builder ≡ written_on (started l.cells) (take l.node-index l.normals)
