use Rattle.std.proofs.Common.{◌≡◌, ◌+◌, ◌-◌, ◌<◌, ◌++◌, length, get_or, sym, ap, ◌∙◌, ap₂, arith, length-append, length-take}
use Rattle.std.proofs.lemmas.List.{append-nil, append_assoc, get_or-take}
use Rattle.scales.specs.declared.doubt.Doubt.TheVariants.{No}
use Rattle.scales.specs.Doubts.{doubt}
use Rattle.logs.specs.Logs.{event_at}
use Rattle.reporting.specs.Listing.{line, lines, row}
use Rattle.reporting.proofs.Lengths.{lines_more, lines_short, line_short, time_within}
use Rattle.reporting.proofs.listing.write_lines.Goals as goal

pub loop-before-init : goal.loop-before-init
unfolding lines
loop-before-init g c = sym (append-nil c.args.page.now)

pub write_line-requires : goal.write_line-requires
write_line-requires g c =
    let es = g.L.Log.events c.args.log.now in
    let laws = g.L.Log.lawful c.args.log.now in
    let gs = c.args.grades.now in
    let k = c.loop-before.before in
    let few = laws.few in
    let here : k < length es = omega (arith, c.loop-before-test.true, length-take c.count.result gs, c.count.ensures) in
    omega (
      arith,
      c.requires.room,
      ap length c.loop-before.invariant,
      length-append c.args.page.now (lines es (row gs) k),
      lines_short es laws (row gs) k (omega arith),
      line_short (k + 1) c.time.result c.shown.result (omega arith) (omega (arith, c.time.ensures, time_within es laws k here)) (omega (arith, c.shown.type_inv)),
    )

pub loop-before-preserved : goal.loop-before-preserved
loop-before-preserved g c =
    let es = g.L.Log.events c.args.log.now in
    let gs = c.args.grades.now in
    let k = c.loop-before.before in
    let old = c.args.page.now in
    let here : k < c.count.result = omega (arith, c.loop-before-test.true, length-take c.count.result gs) in
    let place : k ≡ k + 1 - 1 = omega arith in
    let shown : c.shown.result ≡ doubt.shown (row gs (k + 1)) =
    c.shown.ensures ∙ ap doubt.shown (get_or-take c.count.result gs k No here) ∙ ap (λ i. doubt.shown (get_or gs i No)) place in
    let next = line (k + 1) (event_at es (k + 1)).time (doubt.shown (row gs (k + 1))) in
    c.write_line.ensures ∙ ap₂ (λ t s. c.loop-before.page ++ line (k + 1) t s) c.time.ensures shown
    ∙ ap (λ xs. xs ++ next) c.loop-before.invariant ∙ append_assoc old (lines es (row gs) k) next ∙ ap (λ xs. old ++ xs) (sym (lines_more es (row gs) k))

pub returns : goal.returns
returns g c =
    let es = g.L.Log.events c.args.log.now in
    let gs = c.args.grades.now in
    let all : c.loop-before.before ≡ length es =
    omega (arith, c.loop-before.auto.before-end, c.loop-before-test.false, length-take c.count.result gs, c.count.ensures, c.requires.graded) in
    c.loop-before.invariant ∙ ap (λ k. c.args.page.now ++ lines es (row gs) k) all
