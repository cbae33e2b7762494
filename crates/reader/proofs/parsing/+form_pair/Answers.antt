use Rattle.std.proofs.Common.{sym, arith}
use Rattle.grammar.proofs.Lengths.{symbol_shorter, bounds_shorter, joining_shorter}
use Rattle.reader.proofs.Growth.{forms_positive}
use Rattle.grammar.proofs.Absences.{some_weaker, sign_as}
use Rattle.grammar.proofs.Unique.{from_pair, from_opposite}
use Rattle.reader.proofs.Steps.{plain_step, opposite_step, timed_step, pair_step, pair_form, form_some, no_timed_bounds, no_timed_form, no_other, no_joining, no_right, no_end}
use Rattle.reader.proofs.parsing.+form_pair.Goals as goal

pub form-returns-in_err-sign : goal.form-returns-in_err-sign
form-returns-in_err-sign t c = rw c.from_residual.ensures (λ f u h. form_some h c.in_err-sign.ensures)

pub form-pair-requires : goal.form-pair-requires
form-pair-requires t c = omega (arith, symbol_shorter c.in_ok-sign.ensures)

pub form-form-requires : goal.form-form-requires
form-form-requires t c = omega (arith, symbol_shorter c.in_ok-sign.ensures)

pub form-returns-in_err-rest-in-33 : goal.form-returns-in_err-rest-in-33
form-returns-in_err-rest-in-33 t c =
    rw c.from_residual-in_err-rest-in-33.ensures
    (λ f u h. let w = from_opposite h (sign_as c.in-33.is c.in_ok-sign.ensures) in c.in_err-rest-in-33.ensures w.inner u w.reads)

pub form-overflow_sub-source : goal.form-overflow_sub-source
form-overflow_sub-source t c = let a = c.in_ok-rest-in-33.ensures in omega (arith, a.grown.count, forms_positive a.f)

pub form-add-requires : goal.form-add-requires
form-add-requires t c = omega (arith, symbol_shorter c.in_ok-sign.ensures, c.in_ok-rest-in-33.ensures)

pub form-returns-in_err-bounds-in-Some : goal.form-returns-in_err-bounds-in-Some
form-returns-in_err-bounds-in-Some t c =
    rw c.from_residual-in_err-bounds-in-Some.ensures
    (λ f u h. no_timed_bounds c.in-Some.how (sign_as (sym c.in-Some.ensures) c.in_ok-sign.ensures) c.in_err-bounds-in-Some.ensures h)

pub form-form-requires-in-Some : goal.form-form-requires-in-Some
form-form-requires-in-Some t c = omega (arith, symbol_shorter c.in_ok-sign.ensures, bounds_shorter c.in_ok-bounds-in-Some.ensures.reads)

pub form-returns-in_err-rest-in-Some : goal.form-returns-in_err-rest-in-Some
form-returns-in_err-rest-in-Some t c =
    rw c.from_residual-in_err-rest-in-Some.ensures
    (λ f u h. no_timed_form c.in-Some.how (sign_as (sym c.in-Some.ensures) c.in_ok-sign.ensures) c.in_ok-bounds-in-Some.ensures.reads c.in_err-rest-in-Some.ensures h)

pub form-overflow_sub-source-in-Some : goal.form-overflow_sub-source-in-Some
form-overflow_sub-source-in-Some t c = let a = c.in_ok-rest-in-Some.ensures in omega (arith, a.grown.count, forms_positive a.f)

pub form-add-requires-in-Some : goal.form-add-requires-in-Some
form-add-requires-in-Some t c = omega (arith, symbol_shorter c.in_ok-sign.ensures, bounds_shorter c.in_ok-bounds-in-Some.ensures.reads, c.in_ok-rest-in-Some.ensures)

pub form-returns-in_err-plain-in-None : goal.form-returns-in_err-plain-in-None
form-returns-in_err-plain-in-None t c =
    rw c.from_residual-in_err-plain-in-None.ensures
    (λ f u h. no_other c.in_ok-sign.ensures c.in_err-plain-in-None.ensures (omega arith) (omega arith) c.in-None.ensures h)

pub form-add-requires-in-None : goal.form-add-requires-in-None
form-add-requires-in-None t c = omega (arith, symbol_shorter c.in_ok-sign.ensures)

pub form-returns-in-40 : goal.form-returns-in-40
form-returns-in-40 t c =
    let x = sign_as c.in-40.is c.in_ok-sign.ensures in
    some_weaker c.pair.result (λ p f u h. p f u (from_pair h x)) (λ r a. pair_form x a) c.pair.ensures

pub form-returns-in_ok-rest-in-33 : goal.form-returns-in_ok-rest-in-33
form-returns-in_ok-rest-in-33 t c = opposite_step (sign_as c.in-33.is c.in_ok-sign.ensures) c.in_ok-rest-in-33.ensures c.add.ensures

pub form-returns-in_ok-rest-in-Some : goal.form-returns-in_ok-rest-in-Some
form-returns-in_ok-rest-in-Some t c =
    timed_step c.in-Some.how c.in_ok-sign.ensures c.in-Some.ensures c.in_ok-bounds-in-Some.ensures c.in_ok-rest-in-Some.ensures c.timed.ensures
    c.add-in-Some.ensures

pub form-returns-in_ok-plain-in-None : goal.form-returns-in_ok-plain-in-None
form-returns-in_ok-plain-in-None t c = plain_step c.in_ok-sign.ensures c.in_ok-plain-in-None.ensures c.add-in-None.ensures

pub pair-overflow_sub-left : goal.pair-overflow_sub-left
pair-overflow_sub-left t c = let a = c.in_ok-rest.ensures in omega (arith, a.grown.count, forms_positive a.f)

pub pair-returns-in_err-how : goal.pair-returns-in_err-how
pair-returns-in_err-how t c =
    rw c.from_residual-in_err-how.ensures
    (λ f u h. no_joining c.in_ok-rest.ensures.reads c.in_err-how.ensures h)

pub pair-form-requires-2 : goal.pair-form-requires-2
pair-form-requires-2 t c = omega (arith, c.in_ok-rest.ensures, joining_shorter c.in_ok-how.ensures.reads)

pub pair-returns-in_err-rest-2 : goal.pair-returns-in_err-rest-2
pair-returns-in_err-rest-2 t c =
    rw c.from_residual-in_err-rest-2.ensures
    (λ f u h. no_right c.in_ok-rest.ensures.reads c.in_ok-how.ensures.reads c.in_err-rest-2.ensures h)

pub pair-overflow_sub-right : goal.pair-overflow_sub-right
pair-overflow_sub-right t c = let a = c.in_ok-rest-2.ensures in omega (arith, a.grown.count, forms_positive a.f)

pub pair-returns-in_err-rest-3 : goal.pair-returns-in_err-rest-3
pair-returns-in_err-rest-3 t c =
    rw c.from_residual-in_err-rest-3.ensures
    (λ f u h. no_end c.in_ok-rest.ensures.reads c.in_ok-how.ensures.reads c.in_ok-rest-2.ensures.reads c.in_err-rest-3.ensures h)

pub pair-add-requires : goal.pair-add-requires
pair-add-requires t c = omega (arith, c.in_ok-rest.ensures, joining_shorter c.in_ok-how.ensures.reads, c.in_ok-rest-2.ensures, symbol_shorter c.in_ok-rest-3.ensures)

pub pair-returns : goal.pair-returns
pair-returns t c =
    pair_step c.in_ok-rest.ensures c.in_ok-how.ensures c.in_ok-rest-2.ensures c.in_ok-rest-3.ensures c.joined.ensures
    c.add.ensures
