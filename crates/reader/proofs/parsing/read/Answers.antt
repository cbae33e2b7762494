use Rattle.std.proofs.Common.{arith}
use Rattle.reader.specs.Reading.{of_length, not_a_form}
use Rattle.reader.proofs.Steps.{no_more}
use Rattle.reader.proofs.parsing.read.Goals as goal

pub returns-then-text-eq0 : goal.returns-then-text-eq0
returns-then-text-eq0 c = of_length (λ f. omega (arith, c.then-text-eq0.either, f.some, f.short))

pub returns-in_default : goal.returns-in_default
returns-in_default c = not_a_form (record { some = omega arith; short = omega arith }) (λ f a. c.in_default.ensures f a.rest a.form)

pub returns-in-Some-first : goal.returns-in-Some-first
returns-in-Some-first c = not_a_form (record { some = omega arith; short = omega arith }) (λ f h. no_more c.in-Some.ensures.reads c.in-Some-first.ensures h)
