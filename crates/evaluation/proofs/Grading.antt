-- The clauses of the cells, and the values of the locations, one event back.
use Rattle.std.proofs.Common.{◌≡◌, ℕ, zero, suc, ◌+◌, ◌-◌, ◌<◌, ◌≤◌, List, [], ◌∷◌, length, get_or, sym, refl, ap, ◌∙◌, subst, arith, below_more}
use Rattle.std.proofs.lemmas.List.{get_or-map, length-map}
use Rattle.scales.specs.Scales.{Ops}
use Rattle.logs.specs.declared.event.Event.{Event}
use Rattle.logs.specs.Logs.{event_at}
use Rattle.semantics.specs.Words.{word, elapsed}
use Rattle.semantics.specs.Automata as automata
use Rattle.semantics.specs.Automata.{Clause, reject, nowhere}
use Rattle.semantics.specs.Values.{clause_value, value_before}
use Rattle.semantics.specs.Cells as meaning
use Rattle.semantics.specs.Cells.{Below, clause_of, located}
use Rattle.tables.specs.declared.cell.Cell.{Cell}
use Rattle.tables.specs.declared.cell.Cell.TheVariants.{Accept, Reject, Holds, Fails, And, Or, Inside, Outside, AtMost, Above, Reset, Jump}
use Rattle.tables.specs.declared.cell.Location.{Location}
use Rattle.tables.specs.CellTables.{cell_of, entry_of, entries_of}
use Rattle.evaluation.specs.declared.boundary.Boundary.{Boundary}
use Rattle.evaluation.specs.declared.turn.Turn.{Turn}
use Rattle.evaluation.specs.Boundaries.{behind, after}
use Rattle.evaluation.specs.Columns.{step, held_from, held, Graded}
use Rattle.evaluation.specs.Rows.{no_location}
use Rattle.evaluation.specs.Clauses.{clauses, automaton_of}
use Rattle.evaluation.proofs.Soundness.{Sound, Onward}
use Rattle.evaluation.specs.Passes.{worth, cell_grade, Column}
use Rattle.evaluation.proofs.Columns.{Names, step_same}

pub names_of : (n k : ℕ) (Q : ℕ → Type 0) → ((l : ℕ) → 0 < l → l < n → Q l) → (c : Cell) → Below n k (cell_of c) → Onward (cell_of c) → Names Q k c
names_of n k Q there Accept h o = tt
names_of n k Q there Reject h o = tt
names_of n k Q there (Holds p) h o = tt
names_of n k Q there (Fails p) h o = tt
names_of n k Q there (And a b) h o = h
names_of n k Q there (Or a b) h o = h
names_of n k Q there (Inside I) h o = tt
names_of n k Q there (Outside I) h o = tt
names_of n k Q there (AtMost u) h o = tt
names_of n k Q there (Above u) h o = tt
names_of n k Q there (Reset a) h o = h
names_of n k Q there (Jump l) h o = there l o h

located_at : (T : List Clause) (es : List meaning.Entry) (l : ℕ) (d : meaning.Entry) → l < length es →
    get_or (located T es) l nowhere ≡ record { root = get_or T (get_or es l d).root reject; final = (get_or es l d).final }
unfolding located
located_at T [] l d h = absurd (omega arith)
located_at T (e ∷ es) zero d h = refl
located_at T (e ∷ es) (suc l) d h = located_at T es l d (omega arith)

module _ (cells : List Cell) (locations : List Location) where
  -- location l of the automaton, by the tables
  pub location_at : (l : ℕ) → l < length locations → get_or (automaton_of cells locations) l nowhere
      ≡ record { root = get_or (clauses cells) (get_or locations l no_location).root reject; final = (get_or locations l no_location).is_final }
  unfolding clauses automaton_of
  location_at l h =
      let entry = get_or-map entry_of locations l no_location (entry_of no_location) h in
      let long : l < length (entries_of locations) = simp length-map h in
      located_at (clauses cells) (entries_of locations) l (entry_of no_location) long
      ∙ ap (λ (e : meaning.Entry). record { root = get_or (clauses cells) e.root reject; final = e.final }) entry

  pub after_at : {G : Type 0} (S : Ops G) (b : Boundary) (l s : ℕ) → l < length locations →
      after S (automaton_of cells locations) b l s ≡ behind S b (get_or locations l no_location).is_final
  after_at S b l s h = ap (λ (x : automata.Location). behind S b x.final) (location_at l h)

  module _ {G : Type 0} (S : Ops G) (es : List Event) (over : ℕ → ℕ → G) where
    -- a cell's grade from the values that its clause is made of
    abbrev pub by_cell : ℕ → ℕ → Cell → G
    by_cell s i c =
        step S (event_at es i) (elapsed (word S es) s i) (cell_grade S es cells locations over s i) (cell_grade S es cells locations over i i)
        (λ l. worth S es cells locations over l s (suc i)) c

    by_clause : (s i : ℕ) (c : Cell) → clause_value S (word S es) (λ l r. worth S es cells locations over l r (suc i)) s i (clause_of (clauses cells) (cell_of c)) ≡ by_cell s i c
    unfolding clause_value cell_grade
    by_clause s i Accept = refl
    by_clause s i Reject = refl
    by_clause s i (Holds p) = refl
    by_clause s i (Fails p) = refl
    by_clause s i (And a b) = refl
    by_clause s i (Or a b) = refl
    by_clause s i (Inside I) = refl
    by_clause s i (Outside I) = refl
    by_clause s i (AtMost u) = refl
    by_clause s i (Above u) = refl
    by_clause s i (Reset a) = refl
    by_clause s i (Jump l) = refl

    module _ (sound : Sound cells locations) where
      pub cell_grade_is : (s i k : ℕ) → k < length cells → cell_grade S es cells locations over s i k ≡ by_cell s i (get_or cells k Accept)
      unfolding cell_grade
      cell_grade_is s i k h =
          ap (clause_value S (word S es) (λ l r. worth S es cells locations over l r (suc i)) s i) (sound.reads k h) ∙ by_clause s i (get_or cells k Accept)

    -- one event back
    pub worth_is : (l s i : ℕ) → l < length locations → i ≤ length es →
        worth S es cells locations over l s i ≡ cell_grade S es cells locations over s i (get_or locations l no_location).root
    unfolding worth cell_grade value_before
    worth_is l s i h logged =
        let w = word S es in
        let A = automaton_of cells locations in
        let n = length es in
        let e : suc n - i ≡ suc (n - i) = omega arith in
        let back : n - (n - i) ≡ i = omega arith in
        let on : n - i ≡ suc n - suc i = omega arith in
        ap (λ m. value_before S w A over m l s) e
        ∙ ap (λ m. clause_value S w (value_before S w A over (n - i)) s m (get_or A l nowhere).root) back
        ∙ ap (λ m. clause_value S w (value_before S w A over m) s i (get_or A l nowhere).root) on
        ∙ ap (λ (x : automata.Location). clause_value S w (value_before S w A over (suc n - suc i)) s i x.root) (location_at l h)

    -- and behind the last
    pub worth_end : (l s : ℕ) → worth S es cells locations over l s (suc (length es)) ≡ over l s
    unfolding worth value_before
    worth_end l s =
        let none_left : suc (length es) - suc (length es) ≡ 0 = omega arith in
        ap (λ m. value_before S (word S es) (automaton_of cells locations) over m l s) none_left

module _ {G : Type 0} (S : Ops G) (es : List Event) (over : ℕ → ℕ → G) (t : Turn) (sound : Sound t.automaton.cells.now t.automaton.locations.now) where
  abbrev cells : List Cell
  cells = t.automaton.cells.now

  abbrev locations : List Location
  locations = t.automaton.locations.now

  -- a column that is graded cell by cell has the values of the clauses
  pub column_is : (e : Event) (gs : List G) → e ≡ event_at es t.at →
      ((l : ℕ) → 0 < l → l < length locations → held S t.count gs l t.at ≡ worth S es cells locations over l t.at (suc t.at)) →
      Graded S e t (length cells) gs → (k : ℕ) → k ≤ length cells → Column S es cells locations over t.base t.at t.at k gs
  column_is e gs told row graded zero h = λ a q. absurd (omega arith)
  column_is e gs told row graded (suc k) h =
      let i = t.at in
      let value = cell_grade S es cells locations over i i in
      let next : ℕ → G = λ l. worth S es cells locations over l i (suc i) in
      let before = column_is e gs told row graded k (omega arith) in
      let inside : k < length cells = omega arith in
      let still : 0 ≡ elapsed (word S es) i i = omega arith in
      let here : held_from S gs t.base k ≡ value k =
      graded k inside
      ∙ step_same S e 0 (held_from S gs t.base) value (held_from S gs t.base) value
      (λ l. held S t.count gs l i) next (λ l. (0 < l) × (l < length locations)) k before before (λ l q. row l q.0 q.1)
      (get_or cells k Accept) (names_of (length locations) k (λ l. (0 < l) × (l < length locations)) (λ l p q. (p, q)) (get_or cells k Accept) (sound.earlier k inside) (sound.onward k inside))
      ∙ ap (λ x. step S x 0 value value next (get_or cells k Accept)) told
      ∙ ap (λ x. step S (event_at es i) x value value next (get_or cells k Accept)) still
      ∙ sym (cell_grade_is cells locations S es over sound i i k inside) in
      let one : suc k ≡ k + 1 = omega arith in
      subst (λ m. Column S es cells locations over t.base i i m gs) (sym one)
      (below_more (λ a. held_from S gs t.base a ≡ value a) k before here)
