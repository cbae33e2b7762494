-- What is known of the tables of a rule, and of a turn over them.
use Rattle.std.proofs.Common.{ℕ, ◌+◌, ◌-◌, ◌*◌, ◌<◌, ◌≤◌, length, get_or, ap, ◌∙◌, arith}
use Rattle.tables.specs.declared.cell.Cell.TheVariants.{Accept}
use Rattle.tables.specs.CellTables.{cells_of, entries_of}
use Rattle.rules.proofs.Facts.{cells_are, locations_are, normals_few}
use Rattle.evaluation.specs.declared.automaton.Automaton.{Automaton}
use Rattle.evaluation.specs.declared.turn.Turn.{Turn}
use Rattle.evaluation.specs.RuleEvaluations.{normal_form}
use Rattle.evaluation.proofs.Soundness.{Sound}
use Rattle.evaluation.proofs.Places.{place_below}
use Rattle.evaluation.proofs.Columns.{Names, Before}
use Rattle.evaluation.proofs.Grading.{names_of}
use Rattle.evaluation.proofs.Connections.{Tabulates, tables_sound}

module _ (A : Automaton) where
  pub tabulated : Tabulates (normal_form A.rule.now) A.cells.now A.locations.now
  tabulated =
      record {
        few = normals_few A.rule.now;
        cells_are = ap cells_of A.celled ∙ cells_are A.rule.now;
        locations_are = ap entries_of A.located ∙ locations_are A.rule.now;
      }

  pub sound : Sound A.cells.now A.locations.now
  sound = tables_sound (normal_form A.rule.now) A.cells.now A.locations.now tabulated

module _ (t : Turn) where
  -- the rows stand before the column
  pub row_first : (l r : ℕ) → l < length t.automaton.locations.now → 0 < r → r ≤ t.count → l * t.count + (r - 1) < t.base
  row_first l r h p q = omega (arith, place_below l t.count r (length t.automaton.locations.now) h p q, t.based)

  -- and so a column can be graded from what stands there
  pub named_before : (k : ℕ) → k < length t.automaton.cells.now → Names (Before t) k (get_or t.automaton.cells.now k Accept)
  named_before k h =
      let ok = sound t.automaton in
      names_of (length t.automaton.locations.now) k (Before t) (λ l p q. row_first l t.at q t.begun t.logged) (get_or t.automaton.cells.now k Accept) (ok.earlier k h) (ok.onward k h)
