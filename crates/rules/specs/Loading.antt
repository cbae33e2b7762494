-- What a text is loaded as.
use Rattle.std.specs.Prelude.{◌≡◌, ℕ, true, List}
use Rattle.semantics.specs.Forms.{Form}
use Rattle.semantics.specs.Normals.{normal}
use Rattle.semantics.specs.Automata.{automaton}
use Rattle.semantics.specs.Cells.{table, entries}
use Rattle.tables.specs.CellTables.{cells_of, entries_of}
use Rattle.tables.specs.Sources.{forms_from}
use Rattle.tables.specs.NormalTables.{normals_from}
use Rattle.grammar.specs.Grammar.{Reads}
use Rattle.reader.specs.Reading.{Fitting, Unread}
use Rattle.limits.specs.Order.{ended}
use Rattle.normalizing.specs.NormalWritten.{normals_ended}
use Rattle.rules.specs.declared.rule.Rule.{Rule}
use Rattle.rules.specs.Judging.{refusal_of}
use Rattle.rules.specs.Rules.{rule_source, rule_normals, rule_cells, rule_locations, form_of_rule, normal_of_rule, automaton_of_rule}

-- the answer to a text: 1 for its length, 2 where it is no form, and otherwise the first limit that its form breaks, or 0
pub data Answer (t : List ℕ) : ℕ → Type 0 where
  unread : {n : ℕ} → Unread t n → Answer t n
  judged : {n : ℕ} {f : Form} → Fitting t → Reads t f → n ≡ refusal_of f → Answer t n

-- there is only one
abbrev pub OneAnswer : Type 0
OneAnswer = (t : List ℕ) (m n : ℕ) → Answer t m → Answer t n → m ≡ n

-- the rule R is the form that t is read as
pub record Loaded (t : List ℕ) (R : Rule) : Type 0 where
  pub f : Form
  pub reads : Reads t f
  -- no refusal applies
  pub answer : Answer t 0
  -- its source is that form, and the forms of its table are those inside it as they end
  pub source : form_of_rule R ≡ f
  pub ordered : forms_from (rule_source R) ≡ ended f
  -- its normal form is the defined one, and so are those inside it
  pub normal_form : normal_of_rule R ≡ normal true f
  pub normal_ordered : normals_from (rule_normals R) ≡ normals_ended (normal true f)
  -- its cells and locations are those of the published translation, and stand for its automaton
  pub cells : cells_of (rule_cells R) ≡ table (normal true f)
  pub locations : entries_of (rule_locations R) ≡ entries (normal true f)
  pub decodes : automaton_of_rule R ≡ automaton (normal true f)
