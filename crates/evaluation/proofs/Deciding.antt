-- Behind its deadline a clause is decided, and stays so.
use Rattle.std.proofs.Common.{◌≡◌, ℕ, ◌<◌, ◌≤◌, Bool, true, false, not, ◌⊎◌, List, length, get_or, Option, sym, refl, ap, ◌∙◌, ap₂, inl, inr, ⊎_elim, true≢false, arith}
use Rattle.std.proofs.lemmas.Bool.Decides.{nat_tests}
use Rattle.scales.specs.Scales.{Ops, Laws}
use Rattle.scales.proofs.Orders.{low_right, high_right, high_join, join_high, low_meet, meet_low}
use Rattle.semantics.specs.Words.{Word, elapsed}
use Rattle.semantics.specs.Forms.{Interval, Upper, none, upto, inside, within_upper}
use Rattle.semantics.specs.Automata.{Clause, accept, reject, holds, fails, and, or, in_interval, out_of_interval, at_most, above, reset, jump}
use Rattle.semantics.specs.Values.{test, clause_value}
use Rattle.semantics.specs.Cells.{clause_of}
use Rattle.tables.specs.declared.interval.Interval as of_interval
use Rattle.tables.specs.declared.cell.Cell.{Cell}
use Rattle.tables.specs.declared.cell.Cell.TheVariants.{Accept, Reject, Holds, Fails, And, Or, Inside, Outside, AtMost, Above, Reset, Jump}
use Rattle.tables.specs.Intervals.{upper_of}
use Rattle.tables.specs.CellTables.{cell_of}
use Rattle.evaluation.specs.Deadlines.{sooner, later, combined, unless, deadline}
use Rattle.evaluation.specs.declared.automaton.Automaton.{Automaton}
use Rattle.evaluation.specs.Clauses.{clauses}
use Rattle.evaluation.proofs.Turns.{sound}

module _ (A : Automaton) (v : Bool) where
  abbrev cells : List Cell
  cells = A.cells.now

  abbrev at : ℕ → Upper
  at a = deadline v (get_or (clauses cells) a reject)

  -- the deadline of a cell from those of the cells that it names
  abbrev pub by_cell : Cell → Upper
  by_cell Accept = none
  by_cell Reject = none
  by_cell (Holds p) = none
  by_cell (Fails p) = none
  by_cell (And a b) = combined v (at a) (at b)
  by_cell (Or a b) = combined (not v) (at a) (at b)
  by_cell (Inside I) = unless v (upper_of I.upper)
  by_cell (Outside I) = unless (not v) (upper_of I.upper)
  by_cell (AtMost u) = unless v (upper_of u)
  by_cell (Above u) = unless (not v) (upper_of u)
  by_cell (Reset a) = none
  by_cell (Jump l) = none

  by_clause : (c : Cell) → deadline v (clause_of (clauses cells) (cell_of c)) ≡ by_cell c
  unfolding deadline
  by_clause Accept = refl
  by_clause Reject = refl
  by_clause (Holds p) = refl
  by_clause (Fails p) = refl
  by_clause (And a b) = refl
  by_clause (Or a b) = refl
  by_clause (Inside I) = refl
  by_clause (Outside I) = refl
  by_clause (AtMost u) = refl
  by_clause (Above u) = refl
  by_clause (Reset a) = refl
  by_clause (Jump l) = refl

  pub deadline_at : (k : ℕ) → k < length cells → (c : Cell) → get_or cells k Accept ≡ c → by_cell c ≡ deadline v (get_or (clauses cells) k reject)
  deadline_at k h c is = sym (ap (deadline v) ((sound A).reads k h) ∙ by_clause (get_or cells k Accept) ∙ ap by_cell is)

  -- once the verdict is known, of two parts the later or the earlier
  pub deadline_and : (k : ℕ) → k < length cells → (a b : ℕ) → get_or cells k Accept ≡ And a b → (w : Bool) → v ≡ w →
      combined w (at a) (at b) ≡ deadline v (get_or (clauses cells) k reject)
  deadline_and k h a b is w e = ap (λ x. combined x (at a) (at b)) (sym e) ∙ deadline_at k h (And a b) is

  pub deadline_or : (k : ℕ) → k < length cells → (a b : ℕ) → get_or cells k Accept ≡ Or a b → (w : Bool) → v ≡ w →
      combined (not w) (at a) (at b) ≡ deadline v (get_or (clauses cells) k reject)
  deadline_or k h a b is w e = ap (λ x. combined (not x) (at a) (at b)) (sym e) ∙ deadline_at k h (Or a b) is

  -- what is neither a test nor made of two parts is never decided
  pub undecided : (c : Cell) → ((a b : ℕ) → c ≡ And a b → ⊥) → ((a b : ℕ) → c ≡ Or a b → ⊥) → ((I : of_interval.Interval) → c ≡ Inside I → ⊥) →
      ((I : of_interval.Interval) → c ≡ Outside I → ⊥) → ((u : Option ℕ) → c ≡ AtMost u → ⊥) → ((u : Option ℕ) → c ≡ Above u → ⊥) → none ≡ by_cell c
  undecided Accept _ _ _ _ _ _ = refl
  undecided Reject _ _ _ _ _ _ = refl
  undecided (Holds p) _ _ _ _ _ _ = refl
  undecided (Fails p) _ _ _ _ _ _ = refl
  undecided (And a b) n _ _ _ _ _ = absurd (n a b refl)
  undecided (Or a b) _ n _ _ _ _ = absurd (n a b refl)
  undecided (Inside I) _ _ n _ _ _ = absurd (n I refl)
  undecided (Outside I) _ _ _ n _ _ = absurd (n I refl)
  undecided (AtMost u) _ _ _ _ n _ = absurd (n u refl)
  undecided (Above u) _ _ _ _ _ n = absurd (n u refl)
  undecided (Reset a) _ _ _ _ _ _ = refl
  undecided (Jump l) _ _ _ _ _ _ = refl

-- the clock reading x is behind the deadline u
abbrev pub Passed : Upper → ℕ → Type 0
Passed u x = within_upper u x ≡ false

-- and so is every later one
pub passed_on : (u : Upper) (x y : ℕ) → x ≤ y → Passed u x → Passed u y
passed_on none x y h e = e
passed_on (upto u) x y h e = grind (arith, nat_tests)

both_passed : (a b : Upper) (x : ℕ) → Passed (later a b) x → Passed a x × Passed b x
both_passed none b x e = absurd (true≢false e)
both_passed (upto u) none x e = absurd (true≢false e)
both_passed (upto u) (upto w) x e = (grind (arith, nat_tests), grind (arith, nat_tests))

either_passed : (a b : Upper) (x : ℕ) → Passed (sooner a b) x → Passed a x ⊎ Passed b x
either_passed none b x e = inr e
either_passed (upto u) none x e = inl e
either_passed (upto u) (upto w) x e = grind (arith, nat_tests)

-- no clock behind the upper end is in the interval
outside : (I : Interval) (x : ℕ) → Passed I.upper x → inside I x ≡ false
outside I x e = grind (arith, nat_tests)

module _ {G : Type 0} (S : Ops G) (laws : Laws S) (w : Word G) (on : ℕ → ℕ → G) (s i : ℕ) where
  abbrev worth : Clause → G
  worth = clause_value S w on s i

  abbrev x : ℕ
  x = elapsed w s i

  pub decided : (c : Clause) (v : Bool) → Passed (deadline v c) x → worth c ≡ test S v
  unfolding deadline clause_value
  decided accept v e = absurd (true≢false e)
  decided reject v e = absurd (true≢false e)
  decided (holds p) v e = absurd (true≢false e)
  decided (fails p) v e = absurd (true≢false e)
  decided (and c d) true e =
      let q = both_passed (deadline true c) (deadline true d) x e in ap₂ S.meet (decided c true q.0) (decided d true q.1) ∙ high_right S laws S.high
  decided (and c d) false e =
      ⊎_elim (λ p. ap (λ y. S.meet y (worth d)) (decided c false p) ∙ low_meet S laws (worth d))
      (λ p. ap (S.meet (worth c)) (decided d false p) ∙ meet_low S laws (worth c)) (either_passed (deadline false c) (deadline false d) x e)
  decided (or c d) true e =
      ⊎_elim (λ p. ap (λ y. S.join y (worth d)) (decided c true p) ∙ high_join S laws (worth d))
      (λ p. ap (S.join (worth c)) (decided d true p) ∙ join_high S laws (worth c)) (either_passed (deadline true c) (deadline true d) x e)
  decided (or c d) false e =
      let q = both_passed (deadline false c) (deadline false d) x e in ap₂ S.join (decided c false q.0) (decided d false q.1) ∙ low_right S laws S.low
  decided (in_interval I) true e = absurd (true≢false e)
  decided (in_interval I) false e = ap (test S) (outside I x e)
  decided (out_of_interval I) true e = ap (λ b. test S (not b)) (outside I x e)
  decided (out_of_interval I) false e = absurd (true≢false e)
  decided (at_most u) true e = absurd (true≢false e)
  decided (at_most u) false e = ap (test S) e
  decided (above u) true e = ap (λ b. test S (not b)) e
  decided (above u) false e = absurd (true≢false e)
  decided (reset c) v e = absurd (true≢false e)
  decided (jump l) v e = absurd (true≢false e)
