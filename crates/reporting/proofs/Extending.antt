-- Items for which there is room are there.
use Rattle.std.proofs.Common.{◌≡◌, ℕ, ◌+◌, ◌<◌, ◌≤◌, List, ◌++◌, length, Ok, Err, Result, MatchResult, arith}

pub extended : {T E : Type 0} (r : Result (Unit {0}) E) (before after items : List T) (N : ℕ) →
    MatchResult r (λ _. after ≡ before ++ items) (λ _. (after ≡ before) × (N < length before + length items)) → length before + length items ≤ N → after ≡ before ++ items
extended (Ok _) before after items N h room = h
extended (Err _) before after items N h room = absurd (omega (arith, h.1))
