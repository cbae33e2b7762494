-- The value and the horizon of a cell with a start before the event, from those of the cells that it names.
use Rattle.std.proofs.Common.{◌≡◌, ℕ, ◌<◌, not, List, length, get_or, Option, sym, refl, ap, ◌∙◌, subst, arith}
use Rattle.scales.specs.Scales.{Ops}
use Rattle.logs.specs.declared.event.Event.{Event}
use Rattle.semantics.specs.Forms.{Upper, none, inside, within_upper}
use Rattle.semantics.specs.Automata.{Clause, reject}
use Rattle.semantics.specs.Values.{test}
use Rattle.semantics.specs.Cells.{Below, clause_of}
use Rattle.tables.specs.declared.interval.Interval as of_interval
use Rattle.tables.specs.declared.cell.Cell.{Cell}
use Rattle.tables.specs.declared.cell.Cell.TheVariants.{Accept, Reject, Holds, Fails, And, Or, Inside, Outside, AtMost, Above, Reset, Jump}
use Rattle.tables.specs.declared.cell.Location.{Location}
use Rattle.tables.specs.Intervals.{upper_of, interval_of}
use Rattle.tables.specs.CellTables.{cell_of}
use Rattle.evaluation.specs.declared.automaton.Automaton.{Automaton}
use Rattle.evaluation.specs.declared.turn.Turn.{Turn}
use Rattle.evaluation.specs.Columns.{held_from}
use Rattle.evaluation.specs.Deadlines.{sooner}
use Rattle.evaluation.specs.Segments.{own_value, end_from, window_from, horizon}
use Rattle.evaluation.specs.Clauses.{clauses}
use Rattle.evaluation.specs.declared.segments.Segment.{Segment}
use Rattle.evaluation.specs.Passes.{cell_grade, fresh_value, Fresh, Valued, Segmented}
use Rattle.evaluation.proofs.Turns.{sound}

-- a cell that is neither a test nor made of two parts
pub record Plain (c : Cell) : Type 0 where
  pub not_and : (a b : ℕ) → c ≡ And a b → ⊥
  pub not_or : (a b : ℕ) → c ≡ Or a b → ⊥
  pub not_inside : (I : of_interval.Interval) → c ≡ Inside I → ⊥
  pub not_outside : (I : of_interval.Interval) → c ≡ Outside I → ⊥
  pub not_at_most : (u : Option ℕ) → c ≡ AtMost u → ⊥
  pub not_above : (u : Option ℕ) → c ≡ Above u → ⊥

-- what a cell names
module _ (A : Automaton) (k : ℕ) (there : k < length A.cells.now) (c : Cell) (is : get_or A.cells.now k Accept ≡ c) where
  abbrev cells : List Cell
  cells = A.cells.now

  pub named : Below (length A.locations.now) k (cell_of c)
  named = subst (λ x. Below (length A.locations.now) k (cell_of x)) is ((sound A).earlier k there)

  read : get_or (clauses cells) k reject ≡ clause_of (clauses cells) (cell_of c)
  read = (sound A).reads k there ∙ ap (λ x. clause_of (clauses cells) (cell_of x)) is

  module _ (x : ℕ) where
    abbrev at : ℕ → Upper
    at a = horizon x (get_or (clauses cells) a reject)

    -- the horizon of a cell from those of the cells that it names
    abbrev horizon_by : Cell → Upper
    horizon_by Accept = none
    horizon_by Reject = none
    horizon_by (Holds p) = none
    horizon_by (Fails p) = none
    horizon_by (And a b) = sooner (at a) (at b)
    horizon_by (Or a b) = sooner (at a) (at b)
    horizon_by (Inside I) = window_from x (interval_of I)
    horizon_by (Outside I) = window_from x (interval_of I)
    horizon_by (AtMost u) = end_from x (upper_of u)
    horizon_by (Above u) = end_from x (upper_of u)
    horizon_by (Reset a) = none
    horizon_by (Jump l) = none

    horizon_clause : (d : Cell) → horizon_by d ≡ horizon x (clause_of (clauses cells) (cell_of d))
    unfolding horizon
    horizon_clause Accept = refl
    horizon_clause Reject = refl
    horizon_clause (Holds p) = refl
    horizon_clause (Fails p) = refl
    horizon_clause (And a b) = refl
    horizon_clause (Or a b) = refl
    horizon_clause (Inside I) = refl
    horizon_clause (Outside I) = refl
    horizon_clause (AtMost u) = refl
    horizon_clause (Above u) = refl
    horizon_clause (Reset a) = refl
    horizon_clause (Jump l) = refl

    pub horizon_at : horizon_by c ≡ horizon x (get_or (clauses cells) k reject)
    horizon_at = horizon_clause c ∙ sym (ap (horizon x) read)

    pub endless : Plain c → none ≡ horizon x (get_or (clauses cells) k reject)
    endless plain = none_by c plain ∙ horizon_at
      where
        none_by : (d : Cell) → Plain d → none ≡ horizon_by d
        none_by Accept p = refl
        none_by Reject p = refl
        none_by (Holds q) p = refl
        none_by (Fails q) p = refl
        none_by (And a b) p = absurd (p.not_and a b refl)
        none_by (Or a b) p = absurd (p.not_or a b refl)
        none_by (Inside I) p = absurd (p.not_inside I refl)
        none_by (Outside I) p = absurd (p.not_outside I refl)
        none_by (AtMost u) p = absurd (p.not_at_most u refl)
        none_by (Above u) p = absurd (p.not_above u refl)
        none_by (Reset a) p = refl
        none_by (Jump l) p = refl

module _ (t : Turn) (k : ℕ) (there : k < length t.automaton.cells.now) (c : Cell) (is : get_or t.automaton.cells.now k Accept ≡ c)
    {G : Type 0} (S : Ops G) (clock : ℕ) (next : G) (gs : List G) (x : G) where
  abbrev tables : List Cell
  tables = t.automaton.cells.now

  abbrev locations : List Location
  locations = t.automaton.locations.now

  -- the value of a cell from those of the tables that it names
  module _ (fresh : Clause → G) where
    abbrev own : ℕ → G
    own a = own_value S fresh clock next (get_or (clauses tables) a reject)

    abbrev value_by : Cell → G
    value_by Accept = fresh (clause_of (clauses tables) (cell_of Accept))
    value_by Reject = fresh (clause_of (clauses tables) (cell_of Reject))
    value_by (Holds p) = fresh (clause_of (clauses tables) (cell_of (Holds p)))
    value_by (Fails p) = fresh (clause_of (clauses tables) (cell_of (Fails p)))
    value_by (And a b) = S.meet (own a) (own b)
    value_by (Or a b) = S.join (own a) (own b)
    value_by (Inside I) = test S (inside (interval_of I) clock)
    value_by (Outside I) = test S (not (inside (interval_of I) clock))
    value_by (AtMost u) = test S (within_upper (upper_of u) clock)
    value_by (Above u) = test S (not (within_upper (upper_of u) clock))
    value_by (Reset a) = fresh (get_or (clauses tables) a reject)
    value_by (Jump l) = next

    value_clause : (d : Cell) → value_by d ≡ own_value S fresh clock next (clause_of (clauses tables) (cell_of d))
    unfolding own_value
    value_clause Accept = refl
    value_clause Reject = refl
    value_clause (Holds p) = refl
    value_clause (Fails p) = refl
    value_clause (And a b) = refl
    value_clause (Or a b) = refl
    value_clause (Inside I) = refl
    value_clause (Outside I) = refl
    value_clause (AtMost u) = refl
    value_clause (Above u) = refl
    value_clause (Reset a) = refl
    value_clause (Jump l) = refl

  -- what a cell's value is made of makes it
  pub valued : ((es : List Event) (after : ℕ → ℕ → G) → Fresh S es after t gs → x ≡ value_by (fresh_value S es tables locations after t.at) c) →
      Valued S t clock next gs k x
  valued made es after fresh =
      made es after fresh ∙ value_clause (fresh_value S es tables locations after t.at) c ∙ sym (ap (own_value S (fresh_value S es tables locations after t.at) clock next) (read t.automaton k there c is))

  -- behind a reset
  pub renewed : (a : ℕ) → c ≡ Reset a → x ≡ held_from S gs t.base a → Valued S t clock next gs k x
  unfolding cell_grade
  renewed a reset e =
      let before : a < k = subst (λ d. Below (length locations) k (cell_of d)) reset (named t.automaton k there c is) in
      valued (λ es after fresh. e ∙ fresh a (omega arith) ∙ ap (value_by (fresh_value S es tables locations after t.at)) (sym reset))

  -- what asks neither the clock nor a location, nor is made of two parts
  pub elsewhere : Plain c → ((a : ℕ) → c ≡ Reset a → ⊥) → ((l : ℕ) → c ≡ Jump l → ⊥) → x ≡ held_from S gs t.base k → Valued S t clock next gs k x
  unfolding cell_grade
  elsewhere plain not-reset not-jump e =
      valued (λ es after fresh. e ∙ fresh k there ∙ ap (fresh_value S es tables locations after t.at) (read t.automaton k there c is) ∙ alike (fresh_value S es tables locations after t.at) c plain not-reset not-jump)
    where
      alike : (f : Clause → G) (d : Cell) → Plain d → ((a : ℕ) → d ≡ Reset a → ⊥) → ((l : ℕ) → d ≡ Jump l → ⊥) →
          f (clause_of (clauses tables) (cell_of d)) ≡ value_by f d
      alike f Accept p _ _ = refl
      alike f Reject p _ _ = refl
      alike f (Holds q) p _ _ = refl
      alike f (Fails q) p _ _ = refl
      alike f (And a b) p _ _ = absurd (p.not_and a b refl)
      alike f (Or a b) p _ _ = absurd (p.not_or a b refl)
      alike f (Inside I) p _ _ = absurd (p.not_inside I refl)
      alike f (Outside I) p _ _ = absurd (p.not_outside I refl)
      alike f (AtMost u) p _ _ = absurd (p.not_at_most u refl)
      alike f (Above u) p _ _ = absurd (p.not_above u refl)
      alike f (Reset a) p n _ = absurd (n a refl)
      alike f (Jump l) p _ n = absurd (n l refl)

-- a segment of a cell by a clock is its horizon and its values by that clock
module _ {G : Type 0} (S : Ops G) (t : Turn) (gs : List G) (k clock : ℕ) (g : Segment G) (is : g.since ≡ clock) where
  abbrev clause : Clause
  clause = get_or (clauses t.automaton.cells.now) k reject

  pub segmented_by : upper_of g.horizon ≡ horizon clock clause → Valued S t clock S.low gs k g.low → Valued S t clock S.high gs k g.high → Segmented S t gs k g
  segmented_by ends low high =
      record {
        ends = ends ∙ ap (λ x. horizon x clause) (sym is);
        lowest = subst (λ x. Valued S t x S.low gs k g.low) (sym is) low;
        highest = subst (λ x. Valued S t x S.high gs k g.high) (sym is) high;
      }

  pub ends_by : Segmented S t gs k g → upper_of g.horizon ≡ horizon clock clause
  ends_by segmented = segmented.ends ∙ ap (λ x. horizon x clause) is

  pub low_by : Segmented S t gs k g → Valued S t clock S.low gs k g.low
  low_by segmented = subst (λ x. Valued S t x S.low gs k g.low) is segmented.lowest

  pub high_by : Segmented S t gs k g → Valued S t clock S.high gs k g.high
  high_by segmented = subst (λ x. Valued S t x S.high gs k g.high) is segmented.highest
