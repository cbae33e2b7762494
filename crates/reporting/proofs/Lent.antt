-- Grades that are lent: lowered at the front, put back, and what is behind them.
use Rattle.std.proofs.Common.{◌≡◌, ℕ, ◌+◌, ◌-◌, ◌^◌, ◌<◌, ◌≤◌, min, true, List, ◌++◌, length, get_or, drop, Some, None, Result, sym, refl, ap, ◌∙◌, mul-le-mul, arith, MatchResult}
use Rattle.std.proofs.lemmas.List.{length-drop, get_or-drop, ext_get_or}
use Rattle.std.proofs.lemmas.Bool.Decides.{nat_tests}
use Rattle.std.proofs.lemmas.Result.{MatchResult-weaker}
use Rattle.refusals.specs.declared.refusal.Refusal.{Refusal}
use Rattle.refusals.specs.declared.refusal.Refusal.TheVariants.{OutputTooShort}
use Rattle.scales.specs.declared.doubt.Doubt.{Doubt}
use Rattle.semantics.specs.Forms.{Form}
use Rattle.semantics.specs.Normals.{normal, normal_forms}
use Rattle.semantics.specs.Cells.{entries}
use Rattle.semantics.proofs.Cells.{entries_few, table_few}
use Rattle.reporting.specs.Reports.{memory_for}
use Rattle.reporting.specs.Delivery.{report_refusal, Delivery}

module _ {X : Type 0} (x : X) where
  -- lists that have the same behind a place
  pub same_behind : (n : ℕ) (old new : List X) → length new ≡ length old → ((p : ℕ) → n ≤ p → get_or new p x ≡ get_or old p x) → drop n new ≡ drop n old
  same_behind n old new long same =
      ext_get_or x (drop n new) (drop n old) (length-drop n new ∙ ap (λ k. k - n) long ∙ sym (length-drop n old))
      (λ i _. get_or-drop n new i x ∙ same (n + i) (omega arith) ∙ sym (get_or-drop n old i x))

pub accepted : (need m long room : ℕ) → need ≤ m → long ≤ room → report_refusal need m long room ≡ None
accepted need m long room enough fits = grind (arith, nat_tests)

pub output_short : (need m long room : ℕ) → need ≤ m → room < long → report_refusal need m long room ≡ Some OutputTooShort
output_short need m long room enough short = grind (arith, nat_tests)

-- no run takes more grades
pub memory_few : (f : Form) (n : ℕ) → normal_forms (normal true f) ≤ 64 → n ≤ 512 → memory_for f n ≤ 34434
memory_few f n small few =
    let N = normal true f in
    let rows = mul-le-mul {n₁ = length (entries N)} {m₁ = n} {n₂ = 65} {m₂ = 512} (omega (arith, entries_few N)) few in
    omega (arith, rows, table_few N)

-- the grades at the front that a run uses, of m
pub used_is : (f : Form) (n count needed used m : ℕ) → normal_forms (normal true f) ≤ 64 → n ≤ 512 → count ≡ n →
    needed ≡ min (memory_for f count) (2 ^ 64 - 1) → used ≡ min needed m → used ≡ min (memory_for f n) m
used_is f n count needed used m small few counted enough is =
    let most = memory_few f n small few in
    omega (arith, most, enough ∙ ap (λ k. min (memory_for f k) (2 ^ 64 - 1)) counted, is)

-- a page that takes no grades
pub delivered_page : (page bytes : List ℕ) (old : List Doubt) (before after : List ℕ) (r : Result ℕ Refusal) → page ≡ bytes →
    MatchResult r (λ n. (length page ≤ length before) × (n ≡ length page) × (after ≡ page ++ drop n before))
    (λ e. (e ≡ OutputTooShort) × (length before < length page) × (after ≡ before)) →
    Delivery bytes 0 old old before after r
delivered_page page bytes old before after r same told =
    MatchResult-weaker r told
    (λ n ok. record {
      accepted = accepted 0 (length old) (length bytes) (length before) (omega arith) (omega (arith, ok.0, ap length same));
      long = ok.1 ∙ ap length same;
      out = ok.2 ∙ ap (λ xs. xs ++ drop n before) same;
      cleared = refl;
    })
    (λ e bad. record {
      first = output_short 0 (length old) (length bytes) (length before) (omega arith) (omega (arith, bad.1, ap length same)) ∙ ap Some (sym bad.0);
      out = bad.2;
      kept = refl;
    })
