use Rattle.std.proofs.Common.{◌++◌, length, codes, ap, arith}
use Rattle.reporting.proofs.Lengths.{field_short}
use Rattle.reporting.proofs.Extending.{extended}
use Rattle.reporting.proofs.listing.refusal_line.Goals as goal

pub write_field-requires : goal.write_field-requires
write_field-requires c =
    let begun = extended c.extend_from_slice.result c.new-page.result c.extend_from_slice.new.self (codes "refused ") 11275 c.extend_from_slice.ensures (omega (arith, ap length c.new-page.ensures)) in
    omega (arith, ap length begun, ap (λ xs. length (xs ++ codes "refused ")) c.new-page.ensures, field_short 3 c.args.number 10 (omega arith) (omega arith) (omega arith))
