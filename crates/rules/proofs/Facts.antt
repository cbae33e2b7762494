-- What the invariant of a rule says of its tables.
use Rattle.std.proofs.Common.{◌≡◌, ◌-◌, ◌≤◌, true, List, length, sym, ap, ◌∙◌, ap₂, arith}
use Rattle.std.proofs.lemmas.List.{length-map}
use Rattle.semantics.specs.Normals.{Normal, normal, normal_forms}
use Rattle.semantics.specs.Automata.{automaton}
use Rattle.semantics.specs.Cells.{table, entries, decoded}
use Rattle.semantics.proofs.Theorems.{tabled}
use Rattle.tables.specs.CellTables.{cell_of, entry_of, cells_of, entries_of}
use Rattle.tables.specs.NormalTables.{normal_at, normals_from}
use Rattle.tables.specs.declared.normal_node.NormalNode.{NormalNode}
use Rattle.normalizing.specs.NormalWritten.{normal_written}
use Rattle.normalizing.proofs.Making.{length-normal}
use Rattle.normalizing.proofs.Standing.{root_written}
use Rattle.rules.specs.declared.rule.Rule.{Rule}
use Rattle.rules.specs.Rules.{rule_normals, rule_cells, rule_locations, form_of_rule, normal_of_rule, automaton_of_rule}

-- the normal form that a table of it stands for
pub normal_stands : (ns : List NormalNode) (f : Normal) → ns ≡ normal_written 0 f → normal_at (normals_from ns) (length ns - 1) ≡ f
normal_stands ns f e =
    ap (λ ms. normal_at (normals_from ms) (length ms - 1)) e ∙ ap (λ k. normal_at (normals_from (normal_written 0 f)) (k - 1)) (length-normal f 0) ∙ root_written f

module _ (R : Rule) where
  abbrev N : Normal
  N = normal true (form_of_rule R)

  pub cells_are : cells_of (rule_cells R) ≡ table N
  cells_are = R.celled

  pub locations_are : entries_of (rule_locations R) ≡ entries N
  locations_are = R.located

  pub normals_are : rule_normals R ≡ normal_written 0 N
  normals_are = R.normalized

  pub normal_is : normal_of_rule R ≡ N
  normal_is = normal_stands (rule_normals R) N normals_are

  pub automaton_is : automaton_of_rule R ≡ automaton N
  automaton_is = ap₂ decoded cells_are locations_are ∙ (tabled N).decodes

  pub cells_counted : length (rule_cells R) ≡ length (table N)
  cells_counted = sym (length-map (rule_cells R) cell_of) ∙ ap length cells_are

  pub locations_counted : length (rule_locations R) ≡ length (entries N)
  locations_counted = sym (length-map (rule_locations R) entry_of) ∙ ap length locations_are

  pub normals_counted : length (rule_normals R) ≡ normal_forms N
  normals_counted = ap length normals_are ∙ length-normal N 0

  -- so a run of it fits the limits
  pub normals_few : normal_forms N ≤ 64
  normals_few = let few = R.few in omega (arith, normals_counted)
