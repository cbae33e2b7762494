-- The digits of a number, one by one.
use Rattle.std.proofs.Common.{◌≡◌, ℕ, ◌+◌, ◌-◌, ◌*◌, ◌≤◌, min, List, [], ◌∷◌, ◌++◌, length, get_or, take, drop, sym, ap, ◌∙◌, append_assoc, arith}
use Rattle.std.proofs.lemmas.List.Sums.{fold_push}
use Rattle.grammar.specs.Grammar.{Digit, Digits, decimal}
use Rattle.grammar.specs.Runs.{cap, Passed}
use Rattle.grammar.proofs.Fronts.{uncons}

digits_more : (ds : List ℕ) (c : ℕ) → Digits ds → Digit c → Digits (ds ++ c ∷ [])
digits_more [] c p d = (d, tt)
digits_more (x ∷ ds) c p d = (p.0, digits_more ds c p.1 d)

capped_more : (m v d : ℕ) → v ≡ cap m → min (10 * v + d) 1000000001 ≡ cap (10 * m + d)
capped_more m v d e = omega arith

pub passed_more : (t s : List ℕ) (v w : ℕ) → Passed t v s → 1 ≤ length s → Digit (get_or s 0 0) → w ≡ min (10 * v + (get_or s 0 0 - 48)) 1000000001 → Passed t w (take (length s - 1) (drop 1 s))
passed_more t s v w a h d e =
    let c = get_or s 0 0 in
    let u = take (length s - 1) (drop 1 s) in
    record {
      digits = a.digits ++ c ∷ [];
      begins = a.begins ∙ ap (λ l. a.digits ++ l) (uncons s h) ∙ sym (append_assoc a.digits (c ∷ []) u);
      all = digits_more a.digits c a.all d;
      value = e ∙ capped_more (decimal a.digits) v (c - 48) a.value ∙ ap cap (sym (fold_push (λ n b. 10 * n + (b - 48)) 0 a.digits c));
    }
