-- The tables of a rule can be run, and stand for its automaton.
use Rattle.std.proofs.Common.{◌≡◌, ℕ, suc, ◌+◌, ◌*◌, ◌<◌, ◌≤◌, false, List, [], ◌∷◌, length, get_or, sym, refl, ap, ◌∙◌, subst, ap₂, arith}
use Rattle.std.proofs.lemmas.List.{get_or-map, length-map}
use Rattle.scales.specs.Scales.{Ops}
use Rattle.logs.specs.declared.event.Event.{Event}
use Rattle.semantics.specs.Words.{word}
use Rattle.semantics.specs.Normals.{Normal, normal_forms}
use Rattle.semantics.specs.Automata as automata
use Rattle.semantics.specs.Automata.{Clause, automaton, nowhere, reject}
use Rattle.semantics.specs.Cells as meaning
use Rattle.semantics.specs.Cells.{Below, clause_of, clauses_onto, table, entries, located, decoded}
use Rattle.semantics.specs.Values.{value}
use Rattle.semantics.proofs.Indexed.{all_at}
use Rattle.semantics.proofs.Decoding.{Reads, table_reads}
use Rattle.semantics.proofs.Theorems.{tabled}
use Rattle.tables.specs.declared.cell.Cell.{Cell}
use Rattle.tables.specs.declared.cell.Cell.TheVariants.{Accept}
use Rattle.tables.specs.declared.cell.Location.{Location}
use Rattle.tables.specs.CellTables.{cell_of, cells_of, entry_of, entries_of}
use Rattle.rules.specs.declared.rule.Rule.{Rule}
use Rattle.evaluation.specs.declared.boundary.Boundary.{Boundary}
use Rattle.evaluation.specs.Boundaries.{after}
use Rattle.evaluation.specs.Columns.{held_from}
use Rattle.evaluation.specs.Rows.{no_location}
use Rattle.evaluation.specs.Clauses.{clauses, automaton_of}
use Rattle.evaluation.proofs.Soundness.{Onward, Sound, Homes}
use Rattle.evaluation.specs.Passes.{worth}
use Rattle.evaluation.specs.Evaluations.{needed, value_over, Evaluated}
use Rattle.evaluation.specs.RuleEvaluations.{normal_form, grades_for, RuleEvaluated}
use Rattle.evaluation.proofs.Grading.{location_at}
use Rattle.evaluation.proofs.Homing.{automaton_home}
use Rattle.evaluation.proofs.Onwards.{table_onward}

-- the cells and locations are those of the normal form's translation
pub record Tabulates (N : Normal) (cells : List Cell) (locations : List Location) : Type 0 where
  pub few : normal_forms N ≤ 64
  pub cells_are : cells_of cells ≡ table N
  pub locations_are : entries_of locations ≡ entries N

length-located : (cs : List Clause) (es : List meaning.Entry) → length (located cs es) ≡ length es
unfolding located
length-located cs [] = refl
length-located cs (e ∷ es) = ap suc (length-located cs es)

module _ (N : Normal) (cells : List Cell) (locations : List Location) (T : Tabulates N cells locations) where
  pub locations_long : length (entries N) ≡ length locations
  locations_long = sym (ap length T.locations_are) ∙ length-map locations entry_of

  pub cells_long : length (table N) ≡ length cells
  cells_long = sym (ap length T.cells_are) ∙ length-map cells cell_of

  cell_at : (k : ℕ) → k < length cells → get_or (table N) k meaning.Cell.cell_reject ≡ cell_of (get_or cells k Accept)
  cell_at k h = ap (λ xs. get_or xs k meaning.Cell.cell_reject) (sym T.cells_are) ∙ get_or-map cell_of cells k Accept meaning.Cell.cell_reject h

  entry_at : (l : ℕ) → l < length locations → get_or (entries N) l (record { root = 0; final = false }) ≡ entry_of (get_or locations l no_location)
  entry_at l h = ap (λ xs. get_or xs l (record { root = 0; final = false })) (sym T.locations_are) ∙ get_or-map entry_of locations l no_location (record { root = 0; final = false }) h

  reads_at : (k : ℕ) → k < length cells → get_or (clauses cells) k reject ≡ clause_of (clauses cells) (cell_of (get_or cells k Accept))
  unfolding clauses
  reads_at k h =
      let inside : k < length (table N) = omega (arith, cells_long) in
      let zero_first : 0 + k ≡ k = omega arith in
      let read =
      subst (λ i. Reads (clauses_onto [] (table N)) i (get_or (table N) k meaning.Cell.cell_reject)) zero_first
      (all_at (Reads (clauses_onto [] (table N))) (table N) 0 meaning.Cell.cell_reject (table_reads N) k inside) in
      subst (λ xs. get_or (clauses_onto [] xs) k reject ≡ clause_of (clauses_onto [] xs) (cell_of (get_or cells k Accept))) (sym T.cells_are)
      (subst (λ x. get_or (clauses_onto [] (table N)) k reject ≡ clause_of (clauses_onto [] (table N)) x) (cell_at k h) read)

  pub tables_automaton : automaton_of cells locations ≡ automaton N
  unfolding automaton_of
  tables_automaton = ap₂ decoded T.cells_are T.locations_are ∙ (tabled N).decodes

  long_automaton : length (automaton_of cells locations) ≡ length locations
  unfolding automaton_of
  long_automaton = length-located _ _ ∙ length-map locations entry_of

  pub tables_sound : Sound cells locations
  tables_sound =
      let tab = tabled N in
      record {
        earlier =
            λ k h.
            let inside : k < length (table N) = omega (arith, cells_long) in
            subst (λ x. Below (length locations) k x) (cell_at k h)
            (subst (λ n. Below n k (get_or (table N) k meaning.Cell.cell_reject)) locations_long (tab.earlier k inside));
        onward =
            λ k h.
            let inside : k < length (table N) = omega (arith, cells_long) in
            subst Onward (cell_at k h) (table_onward N meaning.Cell.cell_reject k inside);
        reads = reads_at;
        rooted =
            λ l h.
            let inside : l < length (entries N) = omega (arith, locations_long) in
            let root = tab.rooted l inside in
            omega (arith, cells_long, ap (λ (e : meaning.Entry). e.root) (entry_at l h));
        homes =
            λ l h.
            let inside : l < length (automaton N) = omega (arith, ap length tables_automaton, long_automaton) in
            subst (Homes l) (ap (λ (x : automata.Location). x.root) (ap (λ A. get_or A l nowhere) (sym tables_automaton) ∙ location_at cells locations l h)) (automaton_home N l inside);
        initial = omega (arith, locations_long, tab.locations_counted);
        few_locations = omega (arith, locations_long, tab.locations_bounded, T.few);
      }

  module _ {G : Type 0} (S : Ops G) (es : List Event) where
    -- the values of the tables are those of the automaton
    pub value_tables : (b : Boundary) (l s i : ℕ) → value_over S es cells locations b l s i ≡ value S (word S es) (automaton N) (after S (automaton N) b) l s i
    unfolding worth
    value_tables b l s i = ap (λ A. value S (word S es) A (after S A b) l s i) tables_automaton

-- tables of a rule: an evaluation of them is one of the rule
module _ (R : Rule) (es : List Event) (cells : List Cell) (locations : List Location) (T : Tabulates (normal_form R) cells locations) where
  pub need_is : needed es cells locations ≡ grades_for R es
  need_is = ap₂ (λ l c. l * length es + 2 * c) (sym (locations_long (normal_form R) cells locations T)) (sym (cells_long (normal_form R) cells locations T))

  pub rule_evaluated : {G : Type 0} (S : Ops G) (b : Boundary) (n : ℕ) (old new : List G) → n ≡ length es → needed es cells locations ≤ length old →
      Evaluated S es cells locations b old new → RuleEvaluated S R es b n old new
  rule_evaluated S b n old new counted fits made =
      let ls = locations_long (normal_form R) cells locations T in
      let cs = cells_long (normal_form R) cells locations T in
      record {
        counted = counted;
        fits = omega (arith, need_is);
        rows = λ l r h p q. made.rows l r (omega arith) p q ∙ value_tables (normal_form R) cells locations T S es b l r r;
        columns = λ a h. subst (λ k. held_from S new (k * length es) a ≡ S.low) (sym ls) (made.columns a (omega arith));
        rest = λ p h. made.rest p (omega (arith, need_is));
      }
