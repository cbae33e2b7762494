-- What an evaluation leaves in memory.
use Rattle.std.proofs.Common.{◌≡◌, ℕ, suc, ◌+◌, ◌-◌, ◌*◌, ◌<◌, ◌≤◌, min, List, ◌++◌, length, get_or, drop, replicate, sym, ap, ◌∙◌, inl, inr, arith}
use Rattle.std.proofs.lemmas.List.{ext_get_or, length-append, length-replicate, length-drop, get_or_append_left, get_or-append_right, get_or-replicate, get_or-drop}
use Rattle.std.proofs.lemmas.Bool.{cases_lt}
use Rattle.scales.specs.Scales.{Ops}
use Rattle.logs.specs.declared.event.Event.{Event}
use Rattle.tables.specs.declared.cell.Cell.{Cell}
use Rattle.tables.specs.declared.cell.Location.{Location}
use Rattle.evaluation.specs.declared.boundary.Boundary.{Boundary}
use Rattle.evaluation.specs.Boundaries.{after}
use Rattle.evaluation.specs.Columns.{held_from, held, Framed}
use Rattle.evaluation.specs.Rows.{Begun}
use Rattle.evaluation.specs.Clauses.{automaton_of}
use Rattle.evaluation.specs.Passes.{worth, Rest, EventsDone}
use Rattle.evaluation.specs.Evaluations.{Evaluated}
use Rattle.evaluation.proofs.Places.{place_below}
use Rattle.evaluation.proofs.Grading.{after_at, worth_end}

module _ {G : Type 0} (S : Ops G) (es : List Event) (cells : List Cell) (locations : List Location) where
  pub evaluated : (b : Boundary) (n : ℕ) (x : G) (old begun back new : List G) → n ≡ length es → x ≡ S.low →
      Begun S b locations n (length locations) old begun → EventsDone S es cells locations n 0 begun back → Rest S (length locations * n) (length cells) begun back →
      ((a : ℕ) → a < 2 * length cells → held_from S new (length locations * n) a ≡ x) → Framed S (length locations * n) (2 * length cells) back new →
      Evaluated S es cells locations b old new
  evaluated b n x old begun back new counted low filled done rest wrote framed =
      let over = after S (automaton_of cells locations) b in
      let based : length locations * n ≡ length locations * length es = ap (λ k. length locations * k) counted in
      let settled =
      done over (record {
        own = λ l r h p q z. absurd (omega arith);
        ahead =
            λ l r p h q z i.
            filled.rows l r h q i ∙ sym (after_at cells locations S b l r h) ∙ sym (worth_end cells locations S es over l r)
            ∙ ap (λ k. worth S es cells locations over l r (suc k)) (sym counted);
      }) in
      record {
        rows =
            λ l r h p q.
            let late : r ≤ n = omega arith in
            let lt = place_below l n r (length locations) h p late in
            ap (λ k. held S k new l r) (sym counted) ∙ framed.below (l * n + (r - 1)) lt ∙ settled.own l r h p (omega arith) late;
        columns = λ a h. ap (λ k. held_from S new k a) (sym based) ∙ wrote a h ∙ low;
        rest = λ p h. framed.above p (omega arith) ∙ rest p (omega arith) ∙ filled.above p (omega arith);
      }

-- a front that was filled, and the rest as it was
pub cleared : {G : Type 0} (S : Ops G) (k m : ℕ) (x : G) (old new : List G) → m ≡ min k (length old) → x ≡ S.low → length new ≡ length old →
    ((a : ℕ) → a < m → held_from S new 0 a ≡ x) → Framed S 0 m old new → new ≡ replicate (min k (length old)) S.low ++ drop k old
cleared S k m x old new end low same wrote framed =
    let n = min k (length old) in
    let total : length (replicate n S.low ++ drop k old) ≡ length old = simp (length-append, length-replicate, length-drop) (omega arith) in
    ext_get_or S.low new (replicate n S.low ++ drop k old) (same ∙ sym total)
    (λ p h. elim (cases_lt p n) [
      | inl q ↦
          let at : p ≡ 0 + p = omega arith in
          let inside : p < length (replicate n S.low) = simp length-replicate q in
          ap (λ y. get_or new y S.low) at ∙ wrote p (omega arith) ∙ low ∙ sym (get_or_append_left (replicate n S.low) (drop k old) S.low p inside ∙ get_or-replicate n p S.low S.low q)
      | inr q ↦
          let there : k + (p - n) ≡ p = omega arith in
          framed.above p (omega arith)
          ∙ sym (get_or-append_right (replicate n S.low) (drop k old) n p S.low (length-replicate n S.low) q ∙ get_or-drop k old (p - n) S.low ∙ ap (λ y. get_or old y S.low) there)
    ])
