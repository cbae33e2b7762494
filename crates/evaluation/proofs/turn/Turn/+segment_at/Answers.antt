use Rattle.std.proofs.Common.{◌+◌, ◌<◌, not, length, refl, ap, ◌∙◌, ap₂, arith, rules}
use Rattle.std.proofs.lemmas.List.{get_or_read}
use Rattle.semantics.specs.Values.{test}
use Rattle.tables.specs.Intervals.{upper_of}
use Rattle.evaluation.specs.Deadlines.{sooner}
use Rattle.evaluation.proofs.Valuing.{Plain, named, valued, renewed, elsewhere, horizon_at, endless, segmented_by, low_by, high_by, ends_by}
use Rattle.evaluation.proofs.turn.Turn.+segment_at.Goals as goal

pub segment_at-a-requires : goal.segment_at-a-requires
segment_at-a-requires g t c κs within =
    let before = named c.args.self.now.automaton c.args.k c.requires.inside _ c.in-And.is in
    let first : c.in-And.left < t = omega arith in
    let inside : c.in-And.left < length c.args.self.now.automaton.cells.now = omega arith in
    search rules

pub segment_at-b-requires : goal.segment_at-b-requires
segment_at-b-requires g t c κs within =
    let before = named c.args.self.now.automaton c.args.k c.requires.inside _ c.in-And.is in
    let first : c.in-And.right < t = omega arith in
    let inside : c.in-And.right < length c.args.self.now.automaton.cells.now = omega arith in
    search rules

pub segment_at-a-requires-in-Or : goal.segment_at-a-requires-in-Or
segment_at-a-requires-in-Or g t c κs within =
    let before = named c.args.self.now.automaton c.args.k c.requires.inside _ c.in-Or.is in
    let first : c.in-Or.left < t = omega arith in
    let inside : c.in-Or.left < length c.args.self.now.automaton.cells.now = omega arith in
    search rules

pub segment_at-b-requires-in-Or : goal.segment_at-b-requires-in-Or
segment_at-b-requires-in-Or g t c κs within =
    let before = named c.args.self.now.automaton c.args.k c.requires.inside _ c.in-Or.is in
    let first : c.in-Or.right < t = omega arith in
    let inside : c.in-Or.right < length c.args.self.now.automaton.cells.now = omega arith in
    search rules

pub offset_bounds-grades-self : goal.offset_bounds-grades-self
offset_bounds-grades-self g t c =
    let before = named c.args.self.now.automaton c.args.k c.requires.inside _ c.in-Reset.is in omega arith

pub bounds-grades-self : goal.bounds-grades-self
bounds-grades-self g t c =
    let before = named c.args.self.now.automaton c.args.k c.requires.inside _ c.in-Reset.is in omega arith

pub returns-in-And-clause-segmented : goal.returns-in-And-clause-segmented
returns-in-And-clause-segmented g t c =
    let S = g.S.Scale.ops in
    let turn = c.args.self.now in
    let gs = c.args.grades.now in
    let x = c.args.clock in
    let a = c.segment_at-a in
    let b = c.segment_at-b in
    let left = c.in-And.left in
    let right = c.in-And.right in
    segmented_by S turn gs c.args.k x _ refl
    (c.sooner.ensures
    ∙ ap₂ sooner (ends_by S turn gs left x a.result a.ensures.since a.ensures.segmented) (ends_by S turn gs right x b.result b.ensures.since b.ensures.segmented)
    ∙ horizon_at turn.automaton c.args.k c.requires.inside _ c.in-And.is x)
    (valued turn c.args.k c.requires.inside _ c.in-And.is S x S.low gs _
    (λ es after fresh. c.meet.ensures ∙ ap₂ S.meet (low_by S turn gs left x a.result a.ensures.since a.ensures.segmented es after fresh) (low_by S turn gs right x b.result b.ensures.since b.ensures.segmented es after fresh)))
    (valued turn c.args.k c.requires.inside _ c.in-And.is S x S.high gs _
    (λ es after fresh. c.meet-in-And.ensures ∙ ap₂ S.meet (high_by S turn gs left x a.result a.ensures.since a.ensures.segmented es after fresh) (high_by S turn gs right x b.result b.ensures.since b.ensures.segmented es after fresh)))

pub returns-in-Or-clause-segmented : goal.returns-in-Or-clause-segmented
returns-in-Or-clause-segmented g t c =
    let S = g.S.Scale.ops in
    let turn = c.args.self.now in
    let gs = c.args.grades.now in
    let x = c.args.clock in
    let a = c.segment_at-a-in-Or in
    let b = c.segment_at-b-in-Or in
    let left = c.in-Or.left in
    let right = c.in-Or.right in
    segmented_by S turn gs c.args.k x _ refl
    (c.sooner-in-Or.ensures
    ∙ ap₂ sooner (ends_by S turn gs left x a.result a.ensures.since a.ensures.segmented) (ends_by S turn gs right x b.result b.ensures.since b.ensures.segmented)
    ∙ horizon_at turn.automaton c.args.k c.requires.inside _ c.in-Or.is x)
    (valued turn c.args.k c.requires.inside _ c.in-Or.is S x S.low gs _
    (λ es after fresh. c.join.ensures ∙ ap₂ S.join (low_by S turn gs left x a.result a.ensures.since a.ensures.segmented es after fresh) (low_by S turn gs right x b.result b.ensures.since b.ensures.segmented es after fresh)))
    (valued turn c.args.k c.requires.inside _ c.in-Or.is S x S.high gs _
    (λ es after fresh. c.join-in-Or.ensures ∙ ap₂ S.join (high_by S turn gs left x a.result a.ensures.since a.ensures.segmented es after fresh) (high_by S turn gs right x b.result b.ensures.since b.ensures.segmented es after fresh)))

pub returns-in-Inside-clause-segmented : goal.returns-in-Inside-clause-segmented
returns-in-Inside-clause-segmented g t c =
    let S = g.S.Scale.ops in
    let turn = c.args.self.now in
    let gs = c.args.grades.now in
    let x = c.args.clock in
    let made = c.tested in
    segmented_by S turn gs c.args.k x made.result made.ensures.since
    (ap upper_of made.ensures.horizon ∙ c.window_after.ensures ∙ horizon_at turn.automaton c.args.k c.requires.inside _ c.in-Inside.is x)
    (valued turn c.args.k c.requires.inside _ c.in-Inside.is S x S.low gs _ (λ es after fresh. made.ensures.low ∙ ap (test S) c.contains.ensures))
    (valued turn c.args.k c.requires.inside _ c.in-Inside.is S x S.high gs _ (λ es after fresh. made.ensures.high ∙ ap (test S) c.contains.ensures))

pub returns-in-Outside-clause-segmented : goal.returns-in-Outside-clause-segmented
returns-in-Outside-clause-segmented g t c =
    let S = g.S.Scale.ops in
    let turn = c.args.self.now in
    let gs = c.args.grades.now in
    let x = c.args.clock in
    let made = c.tested-in-Outside in
    segmented_by S turn gs c.args.k x made.result made.ensures.since
    (ap upper_of made.ensures.horizon ∙ c.window_after-in-Outside.ensures ∙ horizon_at turn.automaton c.args.k c.requires.inside _ c.in-Outside.is x)
    (valued turn c.args.k c.requires.inside _ c.in-Outside.is S x S.low gs _ (λ es after fresh. made.ensures.low ∙ ap (λ b. test S (not b)) c.contains-in-Outside.ensures))
    (valued turn c.args.k c.requires.inside _ c.in-Outside.is S x S.high gs _ (λ es after fresh. made.ensures.high ∙ ap (λ b. test S (not b)) c.contains-in-Outside.ensures))

pub returns-in-AtMost-clause-segmented : goal.returns-in-AtMost-clause-segmented
returns-in-AtMost-clause-segmented g t c =
    let S = g.S.Scale.ops in
    let turn = c.args.self.now in
    let gs = c.args.grades.now in
    let x = c.args.clock in
    let made = c.tested-in-AtMost in
    segmented_by S turn gs c.args.k x made.result made.ensures.since
    (ap upper_of made.ensures.horizon ∙ c.end_after.ensures ∙ horizon_at turn.automaton c.args.k c.requires.inside _ c.in-AtMost.is x)
    (valued turn c.args.k c.requires.inside _ c.in-AtMost.is S x S.low gs _ (λ es after fresh. made.ensures.low ∙ ap (test S) c.at_most.ensures))
    (valued turn c.args.k c.requires.inside _ c.in-AtMost.is S x S.high gs _ (λ es after fresh. made.ensures.high ∙ ap (test S) c.at_most.ensures))

pub returns-in-Above-clause-segmented : goal.returns-in-Above-clause-segmented
returns-in-Above-clause-segmented g t c =
    let S = g.S.Scale.ops in
    let turn = c.args.self.now in
    let gs = c.args.grades.now in
    let x = c.args.clock in
    let made = c.tested-in-Above in
    segmented_by S turn gs c.args.k x made.result made.ensures.since
    (ap upper_of made.ensures.horizon ∙ c.end_after-in-Above.ensures ∙ horizon_at turn.automaton c.args.k c.requires.inside _ c.in-Above.is x)
    (valued turn c.args.k c.requires.inside _ c.in-Above.is S x S.low gs _ (λ es after fresh. made.ensures.low ∙ ap (λ b. test S (not b)) c.at_most-in-Above.ensures))
    (valued turn c.args.k c.requires.inside _ c.in-Above.is S x S.high gs _ (λ es after fresh. made.ensures.high ∙ ap (λ b. test S (not b)) c.at_most-in-Above.ensures))

pub returns-in-Reset-clause-segmented : goal.returns-in-Reset-clause-segmented
returns-in-Reset-clause-segmented g t c =
    let S = g.S.Scale.ops in
    let turn = c.args.self.now in
    let gs = c.args.grades.now in
    let x = c.args.clock in
    let made = c.fixed in
    let before : c.in-Reset.cell < c.args.k = named turn.automaton c.args.k c.requires.inside _ c.in-Reset.is in
    let room : turn.base + c.in-Reset.cell < length gs = omega (arith, c.requires.fits, c.requires.inside) in
    let read = get_or_read gs _ c.index-grades-self.result room c.index-grades-self.is S.low in
    segmented_by S turn gs c.args.k x made.result made.ensures.since
    (ap upper_of made.ensures.horizon ∙ horizon_at turn.automaton c.args.k c.requires.inside _ c.in-Reset.is x)
    (renewed turn c.args.k c.requires.inside _ c.in-Reset.is S x S.low gs _ c.in-Reset.cell refl (made.ensures.low ∙ read))
    (renewed turn c.args.k c.requires.inside _ c.in-Reset.is S x S.high gs _ c.in-Reset.cell refl (made.ensures.high ∙ read))

pub returns-in-Jump-clause-segmented : goal.returns-in-Jump-clause-segmented
returns-in-Jump-clause-segmented g t c =
    let S = g.S.Scale.ops in
    let turn = c.args.self.now in
    let gs = c.args.grades.now in
    let x = c.args.clock in
    segmented_by S turn gs c.args.k x _ refl
    (horizon_at turn.automaton c.args.k c.requires.inside _ c.in-Jump.is x)
    (valued turn c.args.k c.requires.inside _ c.in-Jump.is S x S.low gs _ (λ es after fresh. c.lowest.ensures))
    (valued turn c.args.k c.requires.inside _ c.in-Jump.is S x S.high gs _ (λ es after fresh. c.highest.ensures))

pub returns-in_default-clause-segmented : goal.returns-in_default-clause-segmented
returns-in_default-clause-segmented g t c =
    let S = g.S.Scale.ops in
    let turn = c.args.self.now in
    let gs = c.args.grades.now in
    let x = c.args.clock in
    let r = c.in_default in
    let made = c.fixed-in_default in
    let plain : Plain _ =
    record { not_and = r.not-And; not_or = r.not-Or; not_inside = r.not-Inside; not_outside = r.not-Outside; not_at_most = r.not-AtMost; not_above = r.not-Above } in
    let room : turn.base + c.args.k < length gs = omega (arith, c.requires.fits, c.requires.inside) in
    let read = get_or_read gs _ c.index-grades-self-in_default.result room c.index-grades-self-in_default.is S.low in
    segmented_by S turn gs c.args.k x made.result made.ensures.since
    (ap upper_of made.ensures.horizon ∙ endless turn.automaton c.args.k c.requires.inside _ refl x plain)
    (elsewhere turn c.args.k c.requires.inside _ refl S x S.low gs _ plain r.not-Reset r.not-Jump (made.ensures.low ∙ read))
    (elsewhere turn c.args.k c.requires.inside _ refl S x S.high gs _ plain r.not-Reset r.not-Jump (made.ensures.high ∙ read))
