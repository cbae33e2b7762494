use Rattle.std.proofs.Common.{◌≡◌, ◌<◌, ◌++◌, length, codes, ap, ◌∙◌, ap₂, arith, length-append}
use Rattle.std.proofs.lemmas.List.{append_assoc}
use Rattle.reporting.specs.Listing.{field, lines, listed_by, row}
use Rattle.reporting.proofs.Lengths.{field_short}
use Rattle.reporting.proofs.Extending.{extended}
use Rattle.reporting.proofs.listing.listing.Goals as goal
use Rattle.reporting.proofs.listing.listing.Goals.{After-extend_from_slice}

begun : (g : _) (c : After-extend_from_slice g) → c.extend_from_slice.new.self ≡ codes "events "
begun g c =
    extended c.extend_from_slice.result c.new-page.result c.extend_from_slice.new.self (codes "events ") 11275 c.extend_from_slice.ensures (omega (arith, ap length c.new-page.ensures)) ∙ ap (λ xs. xs ++ codes "events ") c.new-page.ensures

pub write_field-requires : goal.write_field-requires
write_field-requires g c =
    let few = (g.L.Log.lawful c.args.log.now).few in
    let short : c.count.result < 1000 = omega (arith, c.count.ensures) in
    omega (arith, ap length (begun g (goal.at.write_field-requires g c).After-extend_from_slice), field_short 3 c.count.result 10 (omega arith) (omega arith) (omega arith))

pub write_lines-requires-clause-room : goal.write_lines-requires-clause-room
write_lines-requires-clause-room g c =
    let few = (g.L.Log.lawful c.args.log.now).few in
    let short : c.count.result < 1000 = omega (arith, c.count.ensures) in
    omega (
      arith,
      ap length (begun g (goal.at.write_lines-requires-clause-room g c).After-extend_from_slice),
      ap length c.write_field.ensures,
      length-append c.extend_from_slice.new.self (field c.count.result 10),
      field_short 3 c.count.result 10 (omega arith) (omega arith) (omega arith),
    )

pub returns : goal.returns
unfolding listed_by
returns g c =
    let es = g.L.Log.events c.args.log.now in
    let rest = lines es (row c.args.grades.now) (length es) in
    c.write_lines.ensures ∙ ap (λ xs. xs ++ rest) (c.write_field.ensures ∙ ap₂ (λ xs n. xs ++ field n 10) (begun g (goal.at.returns g c).After-extend_from_slice) c.count.ensures)
    ∙ append_assoc (codes "events ") (field (length es) 10) rest
