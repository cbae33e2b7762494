use Rattle.std.proofs.Common.{◌≤◌, sym, ◌∙◌, arith}
use Rattle.semantics.specs.Forms.{forms}
use Rattle.reader.proofs.Growth.{forms_positive}
use Rattle.rules.proofs.Judged.{too_deep, too_large, not_proper, within, depth_told, small_told, proper_told, earlier_told}
use Rattle.rules.proofs.rule.loading.judge.Goals as goal

pub overflow_sub-source : goal.overflow_sub-source
overflow_sub-source c = omega (arith, c.requires.holds.count, forms_positive c.requires.f)

pub depth_at-requires : goal.depth_at-requires
depth_at-requires c =
    let h = c.requires.holds in
    let w = earlier_told _ _ c.requires.f (c.as_slice-nodes.ensures.is ∙ h.table (omega (arith, h.count))) h.count in
    record { earlier = w.0; there = w.1 }

pub returns-then-depth_at-gt-DEEPEST : goal.returns-then-depth_at-gt-DEEPEST
returns-then-depth_at-gt-DEEPEST c f h =
    let few : forms f ≤ 64 = omega (arith, h.count) in
    let e = c.as_slice-nodes.ensures.is ∙ h.table few in
    let d = c.depth_at.ensures.is ∙ depth_told _ _ f e h.count in
    sym (too_deep 0 f few (omega (arith, d)))

pub returns-then-not-all_small : goal.returns-then-not-all_small
returns-then-not-all_small c f h =
    let few : forms f ≤ 64 = omega (arith, h.count) in
    let e = c.as_slice-nodes.ensures.is ∙ h.table few in
    let d = c.depth_at.ensures.is ∙ depth_told _ _ f e h.count in
    sym (too_large 0 f few (omega (arith, d)) (sym (small_told _ f e) ∙ sym c.all_small.ensures ∙ c.if-not-all_small.true))

pub returns-then-not-all_proper : goal.returns-then-not-all_proper
returns-then-not-all_proper c f h =
    let few : forms f ≤ 64 = omega (arith, h.count) in
    let e = c.as_slice-nodes.ensures.is ∙ h.table few in
    let d = c.depth_at.ensures.is ∙ depth_told _ _ f e h.count in
    let s = sym (small_told _ f e) ∙ sym c.all_small.ensures ∙ c.if-not-all_small.false in
    sym (not_proper 0 f few (omega (arith, d)) s (sym (proper_told _ f e s) ∙ sym c.all_proper.ensures ∙ c.if-not-all_proper.true))

pub returns : goal.returns
returns c f h =
    let few : forms f ≤ 64 = omega (arith, h.count) in
    let e = c.as_slice-nodes.ensures.is ∙ h.table few in
    let d = c.depth_at.ensures.is ∙ depth_told _ _ f e h.count in
    let s = sym (small_told _ f e) ∙ sym c.all_small.ensures ∙ c.if-not-all_small.false in
    within 0 f few (omega (arith, d)) s (sym (proper_told _ f e s) ∙ sym c.all_proper.ensures ∙ c.if-not-all_proper.false)
