use Rattle.std.proofs.Common.{◌+◌, ◌<◌, not, length, refl, ap, ◌∙◌, ap₂, arith, rules}
use Rattle.std.proofs.lemmas.List.{get_or_read}
use Rattle.semantics.specs.Values.{test}
use Rattle.evaluation.proofs.Valuing.{named, valued, renewed, elsewhere}
use Rattle.evaluation.proofs.turn.Turn.+value.Goals as goal

pub value-a-requires : goal.value-a-requires
value-a-requires g t c κs within =
    let before = named c.args.self.now.automaton c.args.k c.requires.inside _ c.in-And.is in
    let first : c.in-And.left < t = omega arith in
    let inside : c.in-And.left < length c.args.self.now.automaton.cells.now = omega arith in
    search rules

pub value-requires : goal.value-requires
value-requires g t c κs within =
    let before = named c.args.self.now.automaton c.args.k c.requires.inside _ c.in-And.is in
    let first : c.in-And.right < t = omega arith in
    let inside : c.in-And.right < length c.args.self.now.automaton.cells.now = omega arith in
    search rules

pub value-a-requires-in-Or : goal.value-a-requires-in-Or
value-a-requires-in-Or g t c κs within =
    let before = named c.args.self.now.automaton c.args.k c.requires.inside _ c.in-Or.is in
    let first : c.in-Or.left < t = omega arith in
    let inside : c.in-Or.left < length c.args.self.now.automaton.cells.now = omega arith in
    search rules

pub value-requires-in-Or : goal.value-requires-in-Or
value-requires-in-Or g t c κs within =
    let before = named c.args.self.now.automaton c.args.k c.requires.inside _ c.in-Or.is in
    let first : c.in-Or.right < t = omega arith in
    let inside : c.in-Or.right < length c.args.self.now.automaton.cells.now = omega arith in
    search rules

pub offset_bounds-grades-self : goal.offset_bounds-grades-self
offset_bounds-grades-self g t c =
    let before = named c.args.self.now.automaton c.args.k c.requires.inside _ c.in-Reset.is in omega arith

pub bounds-grades-self : goal.bounds-grades-self
bounds-grades-self g t c =
    let before = named c.args.self.now.automaton c.args.k c.requires.inside _ c.in-Reset.is in omega arith

pub returns-in-And : goal.returns-in-And
returns-in-And g t c =
    valued c.args.self.now c.args.k c.requires.inside _ c.in-And.is g.S.Scale.ops c.args.clock c.args.next _ _
    (λ es after fresh. c.meet.ensures ∙ ap₂ g.S.Scale.ops.meet (c.value-a.ensures es after fresh) (c.value.ensures es after fresh))

pub returns-in-Or : goal.returns-in-Or
returns-in-Or g t c =
    valued c.args.self.now c.args.k c.requires.inside _ c.in-Or.is g.S.Scale.ops c.args.clock c.args.next _ _
    (λ es after fresh. c.join.ensures ∙ ap₂ g.S.Scale.ops.join (c.value-a-in-Or.ensures es after fresh) (c.value-in-Or.ensures es after fresh))

pub returns-in-Inside : goal.returns-in-Inside
returns-in-Inside g t c =
    let S = g.S.Scale.ops in
    valued c.args.self.now c.args.k c.requires.inside _ c.in-Inside.is S c.args.clock c.args.next _ _
    (λ es after fresh. c.of_test.ensures ∙ ap (test S) c.contains.ensures)

pub returns-in-Outside : goal.returns-in-Outside
returns-in-Outside g t c =
    let S = g.S.Scale.ops in
    valued c.args.self.now c.args.k c.requires.inside _ c.in-Outside.is S c.args.clock c.args.next _ _
    (λ es after fresh. c.of_test-in-Outside.ensures ∙ ap (λ b. test S (not b)) c.contains-in-Outside.ensures)

pub returns-in-AtMost : goal.returns-in-AtMost
returns-in-AtMost g t c =
    let S = g.S.Scale.ops in
    valued c.args.self.now c.args.k c.requires.inside _ c.in-AtMost.is S c.args.clock c.args.next _ _
    (λ es after fresh. c.of_test-in-AtMost.ensures ∙ ap (test S) c.at_most.ensures)

pub returns-in-Above : goal.returns-in-Above
returns-in-Above g t c =
    let S = g.S.Scale.ops in
    valued c.args.self.now c.args.k c.requires.inside _ c.in-Above.is S c.args.clock c.args.next _ _
    (λ es after fresh. c.of_test-in-Above.ensures ∙ ap (λ b. test S (not b)) c.at_most-in-Above.ensures)

pub returns-in-Reset : goal.returns-in-Reset
returns-in-Reset g t c =
    let S = g.S.Scale.ops in
    let before : c.in-Reset.cell < c.args.k = named c.args.self.now.automaton c.args.k c.requires.inside _ c.in-Reset.is in
    let room : c.args.self.now.base + c.in-Reset.cell < length c.args.grades.now = omega (arith, c.requires.fits, c.requires.inside) in
    renewed c.args.self.now c.args.k c.requires.inside _ c.in-Reset.is S c.args.clock c.args.next _ _ c.in-Reset.cell refl
    (get_or_read c.args.grades.now _ c.index-grades-self.result room c.index-grades-self.is S.low)

pub returns-in-Jump : goal.returns-in-Jump
returns-in-Jump g t c =
    valued c.args.self.now c.args.k c.requires.inside _ c.in-Jump.is g.S.Scale.ops c.args.clock c.args.next _ _ (λ es after fresh. refl)

pub returns-in_default : goal.returns-in_default
returns-in_default g t c =
    let S = g.S.Scale.ops in
    let r = c.in_default in
    let room : c.args.self.now.base + c.args.k < length c.args.grades.now = omega (arith, c.requires.fits, c.requires.inside) in
    elsewhere c.args.self.now c.args.k c.requires.inside _ refl S c.args.clock c.args.next _ _
    (record { not_and = r.not-And; not_or = r.not-Or; not_inside = r.not-Inside; not_outside = r.not-Outside; not_at_most = r.not-AtMost; not_above = r.not-Above })
    r.not-Reset r.not-Jump
    (get_or_read c.args.grades.now _ c.index-grades-self-in_default.result room c.index-grades-self-in_default.is S.low)
