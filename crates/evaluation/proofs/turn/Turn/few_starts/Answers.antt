use Rattle.std.proofs.Common.{◌-◌, ◌<◌, length, get_or, sym, refl, ◌∙◌, subst, arith, rules}
use Rattle.std.proofs.lemmas.List.{get_or_read}
use Rattle.evaluation.specs.Rows.{no_location}
use Rattle.evaluation.specs.Passes.{Valued}
use Rattle.evaluation.proofs.Places.{place_below}
use Rattle.evaluation.proofs.RowSteps.{clocked, reached_value, reached_all}
use Rattle.evaluation.proofs.Turns.{sound}
use Rattle.evaluation.proofs.turn.Turn.few_starts.Goals as goal

pub offset_bounds-grades-at : goal.offset_bounds-grades-at
offset_bounds-grades-at g c =
    let t = c.args.self.now in
    let below = place_below c.args.location t.count (c.loop-s.s - 1) (length t.automaton.locations.now) c.requires.there (omega arith) (omega (arith, t.logged)) in
    let inside : c.place-at.result < length c.loop-s.grades = omega (arith, below, c.place-at.ensures, t.based, c.requires.fits, c.loop-s.auto.grades) in
    search rules

pub offset_bounds-grades-at-in-loop-s : goal.offset_bounds-grades-at-in-loop-s
offset_bounds-grades-at-in-loop-s g c =
    let t = c.args.self.now in
    let below = place_below c.args.location t.count (c.loop-s.s - 1) (length t.automaton.locations.now) c.requires.there (omega arith) (omega (arith, t.logged)) in
    let inside : c.place-at.result < length c.loop-s.grades = omega (arith, below, c.place-at.ensures, t.based, c.requires.fits, c.loop-s.auto.grades) in
    search rules

pub value-requires-clause-inside : goal.value-requires-clause-inside
value-requires-clause-inside g c = (sound c.args.self.now.automaton).rooted c.args.location c.requires.there

pub loop-s-preserved : goal.loop-s-preserved
loop-s-preserved g c =
    let S = g.S.Scale.ops in
    let t = c.args.self.now in
    let l = c.args.location in
    let s = c.loop-s.s in
    let gs = c.loop-s.grades in
    let clock = c.clock_of-clock.result in
    let below = place_below l t.count (s - 1) (length t.automaton.locations.now) c.requires.there (omega arith) (omega (arith, t.logged)) in
    let inside : c.place-at.result < length gs = omega (arith, below, c.place-at.ensures, t.based, c.requires.fits, c.loop-s.auto.grades) in
    let next = sym c.index-grades-at.is ∙ get_or_read gs _ c.index-grades-at.result inside c.index-grades-at.is S.low in (
      omega arith,
      omega arith,
      reached_value S g.met.S.Scale.laws t (length c.args.grades.now) c.requires.fits l c.requires.there (s - 1) s clock c.place-at.result c.value.result
          c.args.grades.now gs _ (omega arith) (omega arith) c.loop-s.invariant.1 c.loop-s.auto.grades c.place-at.ensures
          (clocked S t.times.now s t.at t.count clock (omega arith) c.loop-s.invariant.1 t.logged c.clock_of-clock.ensures)
          (subst (λ y. Valued S t clock y gs (get_or t.automaton.locations.now l no_location).root c.value.result) next c.value.ensures)
          c.loop-s.invariant.2 refl,
    )

pub returns : goal.returns
returns g c =
    reached_all g.S.Scale.ops g.met.S.Scale.laws c.args.self.now _ c.requires.fits c.args.location c.requires.there c.loop-s.s
    c.args.grades.now c.loop-s.grades (omega arith) c.loop-s.invariant.2
