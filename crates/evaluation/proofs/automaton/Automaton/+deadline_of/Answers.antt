use Rattle.std.proofs.Common.{refl, ◌∙◌, arith}
use Rattle.evaluation.proofs.Valuing.{named}
use Rattle.evaluation.proofs.Deciding.{deadline_at, deadline_and, deadline_or, undecided}
use Rattle.evaluation.proofs.automaton.Automaton.+deadline_of.Goals as goal

pub deadline_of-a-requires : goal.deadline_of-a-requires
deadline_of-a-requires t c = let before = named c.args.self.now c.args.k c.requires _ c.in-And.is in (omega arith, omega arith)

pub deadline_of-b-requires : goal.deadline_of-b-requires
deadline_of-b-requires t c = let before = named c.args.self.now c.args.k c.requires _ c.in-And.is in (omega arith, omega arith)

pub deadline_of-a-requires-in-Or : goal.deadline_of-a-requires-in-Or
deadline_of-a-requires-in-Or t c = let before = named c.args.self.now c.args.k c.requires _ c.in-Or.is in (omega arith, omega arith)

pub deadline_of-b-requires-in-Or : goal.deadline_of-b-requires-in-Or
deadline_of-b-requires-in-Or t c = let before = named c.args.self.now c.args.k c.requires _ c.in-Or.is in (omega arith, omega arith)

pub returns-then-verdict : goal.returns-then-verdict
returns-then-verdict t c =
    let known = deadline_and c.args.self.now c.args.verdict c.args.k c.requires _ _ c.in-And.is _ c.if-verdict.true in (cc)

pub returns-else-verdict : goal.returns-else-verdict
returns-else-verdict t c =
    let known = deadline_and c.args.self.now c.args.verdict c.args.k c.requires _ _ c.in-And.is _ c.if-verdict.false in (cc)

pub returns-then-verdict-2 : goal.returns-then-verdict-2
returns-then-verdict-2 t c =
    let known = deadline_or c.args.self.now c.args.verdict c.args.k c.requires _ _ c.in-Or.is _ c.if-verdict-2.true in (cc)

pub returns-else-verdict-2 : goal.returns-else-verdict-2
returns-else-verdict-2 t c =
    let known = deadline_or c.args.self.now c.args.verdict c.args.k c.requires _ _ c.in-Or.is _ c.if-verdict-2.false in (cc)

pub returns-in-Inside : goal.returns-in-Inside
returns-in-Inside t c = c.end_unless.ensures ∙ deadline_at c.args.self.now c.args.verdict c.args.k c.requires _ c.in-Inside.is

pub returns-in-Outside : goal.returns-in-Outside
returns-in-Outside t c = c.end_unless-in-Outside.ensures ∙ deadline_at c.args.self.now c.args.verdict c.args.k c.requires _ c.in-Outside.is

pub returns-in-AtMost : goal.returns-in-AtMost
returns-in-AtMost t c = c.end_unless-in-AtMost.ensures ∙ deadline_at c.args.self.now c.args.verdict c.args.k c.requires _ c.in-AtMost.is

pub returns-in-Above : goal.returns-in-Above
returns-in-Above t c = c.end_unless-in-Above.ensures ∙ deadline_at c.args.self.now c.args.verdict c.args.k c.requires _ c.in-Above.is

pub returns-in_default : goal.returns-in_default
returns-in_default t c =
    let r = c.in_default in
    undecided c.args.self.now c.args.verdict _ r.not-And r.not-Or r.not-Inside r.not-Outside r.not-AtMost r.not-Above
    ∙ deadline_at c.args.self.now c.args.verdict c.args.k c.requires _ refl
