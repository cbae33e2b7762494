-- What the tables of a rule are.
use Rattle.std.specs.Prelude.{◌-◌, List, length}
use Rattle.semantics.specs.Forms.{Form}
use Rattle.semantics.specs.Normals.{Normal}
use Rattle.semantics.specs.Automata.{Location}
use Rattle.semantics.specs.Cells.{decoded}
use Rattle.tables.specs.CellTables.{cells_of, entries_of}
use Rattle.tables.specs.NormalTables.{normal_at, normals_from}
use Rattle.tables.specs.declared.node.Node as node
use Rattle.tables.specs.declared.normal_node.NormalNode as normal_node
use Rattle.tables.specs.declared.cell.Cell as cell
use Rattle.tables.specs.declared.cell.Location as location
use Rattle.rules.specs.declared.rule.Rule.{Rule}
use Rattle.rules.specs.Judging.{form_in}

abbrev pub rule_source : Rule → List node.Node
rule_source R = R.source

abbrev pub rule_normals : Rule → List normal_node.NormalNode
rule_normals R = R.normals

abbrev pub rule_cells : Rule → List cell.Cell
rule_cells R = R.cells

abbrev pub rule_locations : Rule → List location.Location
rule_locations R = R.locations

-- the form that the rule is
abbrev pub form_of_rule : Rule → Form
form_of_rule R = form_in (rule_source R)

-- the normal form that its table stands for: the one that ended last
abbrev pub normal_of_rule : Rule → Normal
normal_of_rule R = normal_at (normals_from (rule_normals R)) (length (rule_normals R) - 1)

-- the automaton that its cells and locations stand for
abbrev pub automaton_of_rule : Rule → List Location
automaton_of_rule R = decoded (cells_of (rule_cells R)) (entries_of (rule_locations R))
