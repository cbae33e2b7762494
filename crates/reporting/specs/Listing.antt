-- The bytes of a report. A number is written in decimal digits with no leading zero; 32 is the space and 10 the newline.
use Rattle.std.specs.Prelude.{ℕ, zero, suc, ◌-◌, List, [], ◌∷◌, ◌++◌, length, codes, decimal, slice_index_or}
use Rattle.scales.specs.declared.doubt.Doubt.{Doubt}
use Rattle.scales.specs.declared.doubt.Doubt.TheVariants.{No}
use Rattle.scales.specs.Doubts.{doubt}
use Rattle.logs.specs.declared.event.Event.{Event}
use Rattle.logs.specs.Logs.{event_at}
use Rattle.logs.specs.Rebasing.{rebased}
use Rattle.semantics.specs.Words.{word}
use Rattle.semantics.specs.Forms.{Form, grade}

-- a number, and the byte that ends it
unfoldable pub field : ℕ → ℕ → List ℕ
field n end = decimal n ++ (end ∷ [])

-- the line of event i: its number, its time, and the number that shows its grade
unfoldable pub line : ℕ → ℕ → ℕ → List ℕ
line i time shown = field i 32 ++ (field time 32 ++ field shown 10)

-- the lines of the first k events, of which event i has the grade g i
unfoldable pub lines : List Event → (ℕ → Doubt) → ℕ → List ℕ
lines es g zero = []
lines es g (suc k) = lines es g k ++ line (suc k) (event_at es (suc k)).time (doubt.shown (g (suc k)))

-- how many events there are, and a line for each
unfoldable pub listed_by : List Event → (ℕ → Doubt) → List ℕ
listed_by es g = codes "events " ++ (field (length es) 10 ++ lines es g (length es))

-- the grades in a row of memory
abbrev pub row : List Doubt → ℕ → Doubt
row gs i = slice_index_or gs (i - 1) No

-- the listing of a log by a form: times are since the first event, and grades the form's own at each event
abbrev pub listing : Form → List Event → List ℕ
listing f es = listed_by (rebased es) (grade doubt (word doubt (rebased es)) f)

-- the line in place of a listing, by the number of the refusal
unfoldable pub refused_line : ℕ → List ℕ
refused_line n = codes "refused " ++ field n 10
