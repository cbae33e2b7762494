use Rattle.std.proofs.Common.{◌≡◌, ◌+◌, ◌-◌, ◌*◌, true, length, get_or, ap, ◌∙◌, arith}
use Rattle.scales.specs.declared.doubt.Doubt.TheVariants.{No}
use Rattle.semantics.specs.Normals.{normal}
use Rattle.semantics.specs.Cells.{entries}
use Rattle.rules.specs.Rules.{form_of_rule}
use Rattle.evaluation.proofs.Places.{row_fits}
use Rattle.reporting.proofs.Lengths.{listed_same}
use Rattle.reporting.proofs.delivery.graded_listing.Goals as goal

pub listing-requires : goal.listing-requires
listing-requires g c =
    let es = g.L.Log.events c.args.log.now in
    let N = normal true (form_of_rule c.args.rule.now) in
    let ran = c.in_ok-run_in.ensures in
    omega (arith, ran.fits, c.run_in.auto.grades, row_fits 0 (length es) (length (entries N)) (omega arith))

pub returns : goal.returns
returns g c =
    let es = g.L.Log.events c.args.log.now in
    let gs = c.run_in.new.grades in
    let ran = c.in_ok-run_in.ensures in (
      c.listing.ensures
          ∙ listed_same es _ _ (λ i some le. let place : i - 1 ≡ 0 * length es + (i - 1) = omega arith in ap (λ k. get_or gs k No) place ∙ ran.graded.rule i some le),
      ran.fits,
      ran.rest,
    )
