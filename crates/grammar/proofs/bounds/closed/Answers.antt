use Rattle.grammar.proofs.Absences.{no_comma, no_to, no_close}
use Rattle.grammar.proofs.bounds.closed.Goals as goal

pub returns-in_err-lower : goal.returns-in_err-lower
returns-in_err-lower c = rw c.from_residual.ensures (λ I u h. c.in_err-lower.ensures _ _ h.from)

pub returns-in_err-rest : goal.returns-in_err-rest
returns-in_err-rest c = rw c.from_residual-in_err-rest.ensures (λ I u h. no_comma c.in_ok-lower.ensures.reads c.in_err-rest.ensures h)

pub returns-in_err-upper : goal.returns-in_err-upper
returns-in_err-upper c = rw c.from_residual-in_err-upper.ensures (λ I u h. no_to c.in_ok-lower.ensures.reads c.in_ok-rest.ensures c.in_err-upper.ensures h)

pub returns-in_err-rest-2 : goal.returns-in_err-rest-2
returns-in_err-rest-2 c = rw c.from_residual-in_err-rest-2.ensures (λ I u h. no_close c.in_ok-lower.ensures.reads c.in_ok-rest.ensures c.in_ok-upper.ensures.reads c.in_err-rest-2.ensures h)

pub returns : goal.returns
returns c =
    let a = c.in_ok-lower.ensures in
    let b = c.in_ok-upper.ensures in
    record {
      I = record { lower = a.n; upper = b.n };
      reads = record {
        t₂ = _;
        t₃ = _;
        t₄ = _;
        from = a.reads;
        comma = c.in_ok-rest.ensures;
        to = b.reads;
        closes = c.in_ok-rest-2.ensures;
      };
      value = λ i. record { lower = a.value i; upper = b.value i };
    }
