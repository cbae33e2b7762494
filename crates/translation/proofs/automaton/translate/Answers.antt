use Rattle.std.proofs.Common.{◌≡◌, ◌-◌, [], ◌∷◌, ◌++◌, length, get_or, take, sym, ap, ◌∙◌, subst, zero-add, arith}
use Rattle.std.proofs.lemmas.List.{take_all, length-take-le}
use Rattle.semantics.specs.Cells.{size, cell_reset}
use Rattle.normalizing.specs.NormalWritten.{normal_written}
use Rattle.tables.specs.declared.normal_node.NormalNode.TheVariants.{Top}
use Rattle.translation.specs.Built.{Built}
use Rattle.translation.specs.Building.{started, write, written_on, widths, NormalBelow}
use Rattle.translation.proofs.Passes.{on_none, on_more, on_lengths, widths_few}
use Rattle.translation.proofs.Written.{widths_size, pass_cells, pass_entries}
use Rattle.translation.proofs.automaton.translate.Goals as goal
use Rattle.translation.proofs.automaton.translate.Goals.{After-loop-node}

pub loop-node-init : goal.loop-node-init
loop-node-init c = c.new-builder.ensures ∙ sym (on_none _)

pub add-requires : goal.add-requires
add-requires c =
    let ns = c.args.normals.now in
    let i = c.loop-node.node-index in
    let a = on_lengths (take i ns) (started c.total-cells.result) in
    let n = length-take-le i ns c.loop-node.auto.node-index-end in
    let inv = c.loop-node.invariant in
    let under = c.loop-node-test.true in
    let roots = ap (λ (B : Built). length B.roots) inv ∙ a.roots ∙ zero-add (length (take i ns)) ∙ n in
    record {
      room =
          record {
            cells = omega (arith, ap (λ (B : Built). length B.cells) inv, a.cells, n, under, c.requires.few);
            roots = omega (arith, roots, under, c.requires.few);
          };
      location = omega (arith, ap (λ (B : Built). length B.entries) inv, a.entries, n, under, c.requires.few);
      earlier = subst (λ k. NormalBelow k (get_or ns i Top)) (sym roots) (c.requires.earlier i under);
    }

pub loop-node-preserved : goal.loop-node-preserved
loop-node-preserved c =
    c.add.ensures ∙ ap (λ B. write B (get_or c.args.normals.now c.loop-node.node-index Top)) c.loop-node.invariant ∙
    sym (on_more _ _ _ Top c.loop-node-test.true)

pub overflow_sub-cells : goal.overflow_sub-cells
overflow_sub-cells c = omega (arith, c.total-cells.ensures, widths_few c.args.normals.now, c.requires.some)

-- when all nodes are written
whole : (c : After-loop-node) → c.loop-node.builder ≡ written_on (started c.total-cells.result) c.args.normals.now
whole c = c.loop-node.invariant ∙ ap (written_on (started c.total-cells.result)) (take_all c.loop-node.node-index c.args.normals.now c.loop-node-test.false)

pub finish-requires : goal.finish-requires
finish-requires c =
    omega (arith, (on_lengths c.args.normals.now (started c.total-cells.result)).cells, ap (λ (C : Built). length C.cells) (whole (goal.at.finish-requires c).After-loop-node), c.requires.few)

pub returns : goal.returns
returns c f e =
    let r = c.total-cells.result in
    let size_is : r ≡ size f = c.total-cells.ensures ∙ ap widths e ∙ widths_size f 0 in
    let same : c.loop-node.builder ≡ written_on (started r) (normal_written 0 f) =
    whole (goal.at.returns c).After-loop-node ∙ ap (written_on (started r)) e in
    record {
      cells = c.finish.ensures.cells ∙ (λ t. (same t).cells ++ (cell_reset (size_is t - 1) ∷ [])) ∙ pass_cells f r;
      locations = c.finish.ensures.locations ∙ ap (λ (C : Built). C.entries) same ∙ ap (λ k. (written_on (started k) (normal_written 0 f)).entries) size_is ∙ pass_entries f;
    }
