-- What the report of a rule's text and a file's bytes is.
use Rattle.std.specs.Prelude.{◌≡◌, ℕ, ◌+◌, ◌*◌, ◌<◌, ◌≤◌, true, List, length}
use Rattle.logs.specs.declared.event.Event.{Event}
use Rattle.logs.specs.Logs.{Lawful}
use Rattle.semantics.specs.Forms.{Form}
use Rattle.semantics.specs.Normals.{normal}
use Rattle.semantics.specs.Cells.{table, entries}
use Rattle.grammar.specs.Grammar.{Reads}
use Rattle.rules.specs.Loading.{Answer}
use Rattle.files.specs.Format.{encode}
use Rattle.files.specs.Reading.{IsFile}
use Rattle.reporting.specs.Listing.{listing, refused_line}

-- the grades that the run of a form over n events takes: locations × events, and two a cell
abbrev pub memory_for : Form → ℕ → ℕ
memory_for f n = length (entries (normal true f)) * n + 2 * length (table (normal true f))

-- the bytes of the report, and how many grades of memory it takes
pub data Reports (text file : List ℕ) : List ℕ → ℕ → Type 0 where
  -- the text is no rule, for the reason n
  no_rule : {n : ℕ} → Answer text n → 0 < n → Reports text file (refused_line n) 0
  -- the text is a rule, and the file is that of no lawful list
  no_file : Answer text 0 → (IsFile file → ⊥) → Reports text file (refused_line 9) 0
  -- the text is a rule, of the form f, and the file is that of es
  graded : {f : Form} {es : List Event} → Answer text 0 → Reads text f → Lawful es → encode es ≡ file →
      Reports text file (listing f es) (memory_for f (length es))

-- there is only one
abbrev pub OneReport : Type 0
OneReport = (text file b c : List ℕ) (m n : ℕ) → Reports text file b m → Reports text file c n → (b ≡ c) × (m ≡ n)

-- a memory of so many grades and an output of so many bytes suffice for every report
abbrev pub Enough : ℕ → ℕ → Type 0
Enough grades long = (text file bytes : List ℕ) (need : ℕ) → Reports text file bytes need → (need ≤ grades) × (length bytes ≤ long)
