-- What is proved of every scale, form and list of events, as facts that a contract can hold.
use Rattle.std.specs.Prelude.{◌≡◌, ℕ, suc, ◌+◌, ◌*◌, ◌<◌, ◌≤◌, true, false, List, length, get_or, slice_index_or}
use Rattle.logs.specs.declared.event.Event.{Event}
use Rattle.logs.specs.Logs.{Lawful}
use Rattle.scales.specs.Scales.{Ops, AtMost}
use Rattle.semantics.specs.Words.{Word, word}
use Rattle.semantics.specs.Forms.{Form, grade}
use Rattle.semantics.specs.Normals.{Normal, top, normal, normal_grade, normal_forms, temporal_forms, temporals, waits}
use Rattle.semantics.specs.Automata.{Location, automaton}
use Rattle.semantics.specs.Values.{value, run_value, floor, ceiling}
use Rattle.semantics.specs.Cells.{size, table, entries, decoded, Below, cell_reject}
use Rattle.semantics.specs.Continuations.{Timely, Continues}
use Rattle.semantics.specs.Relations.{Respects, Alike, Equated}

-- what is proved of lists whose times never fall holds of every lawful log
abbrev pub LawfulTimely : Type 0
LawfulTimely = (es : List Event) → Lawful es → Timely es

module _ {G : Type 0} (S : Ops G) where
  -- the normal form of a form has its grade
  abbrev pub NormalSame : Type 0
  NormalSame = (es : List Event) (f : Form) (i : ℕ) → normal_grade S (word S es) (normal true f) i ≡ grade S (word S es) f i

  -- and that of its opposite the opposite grade
  abbrev pub NormalOpposed : Type 0
  NormalOpposed =
      (es : List Event) (f : Form) (i : ℕ) → normal_grade S (word S es) (normal false f) i ≡ S.opposite (grade S (word S es) f i)

  -- location 0, started at an event, has the grade of the rule there
  abbrev pub Agreement : Type 0
  Agreement =
      (es : List Event) → Timely es → (f : Form) (i : ℕ) → 1 ≤ i → i ≤ length es →
      run_value S (word S es) (normal true f) 0 i i ≡ grade S (word S es) f i

  -- temporal form l, counted from 0, has location l + 1: started at an event, that of an until or a release has the form's grade there
  abbrev pub AgreementWithin : Type 0
  AgreementWithin =
      (es : List Event) → Timely es → (f : Normal) (l : ℕ) → waits (slice_index_or (temporal_forms f) l top) ≡ true →
      (i : ℕ) → 1 ≤ i → i ≤ length es →
      run_value S (word S es) f (suc l) i i ≡ normal_grade S (word S es) (slice_index_or (temporal_forms f) l top) i

  -- values grow with their boundary
  abbrev pub Monotone : Type 0
  Monotone =
      (es : List Event) (A : List Location) (after later : ℕ → ℕ → G) →
      ((l s : ℕ) → 1 ≤ s → s ≤ length es → AtMost S (after l s) (later l s)) →
      (l s i : ℕ) → 1 ≤ s → s ≤ i → i ≤ length es →
      AtMost S (value S (word S es) A after l s i) (value S (word S es) A later l s i)

  -- the value on a continuation is that on the events before the cut, over what the continuation has one event later
  abbrev pub Cut : Type 0
  Cut =
      (es whole : List Event) → Continues es whole → (A : List Location) (after : ℕ → ℕ → G) →
      (l s i : ℕ) → 1 ≤ s → s ≤ i → i ≤ length es →
      value S (word S whole) A after l s i ≡
      value S (word S es) A (λ m t. value S (word S whole) A after m t (suc (length es))) l s i

  -- on every continuation of the kind C, the rule's grade lies between floor and ceiling
  abbrev pub Between : (List Event → List Event → Type 0) → Type 0
  Between C =
      (es whole : List Event) → C es whole → (f : Form) (i : ℕ) → 1 ≤ i → i ≤ length es →
      AtMost S (floor S (word S es) (normal true f) i) (grade S (word S whole) f i) ×
      AtMost S (grade S (word S whole) f i) (ceiling S (word S es) (normal true f) i)

  -- so where floor and ceiling are one grade, it is the rule's grade
  abbrev pub Settled : (List Event → List Event → Type 0) → Type 0
  Settled C =
      (es whole : List Event) → C es whole → (f : Form) (i : ℕ) → 1 ≤ i → i ≤ length es →
      floor S (word S es) (normal true f) i ≡ ceiling S (word S es) (normal true f) i →
      grade S (word S whole) f i ≡ floor S (word S es) (normal true f) i

module _ {G H : Type 0} (S : Ops G) (T : Ops H) where
  -- words of one length whose facts are related, over boundaries that are related, have related values
  abbrev pub Relational : Type 0
  Relational =
      (left right : G → H → H) → Respects (Equated left right) S T →
      (w : Word G) (v : Word H) → Alike (Equated left right) S T w v → w.count ≡ v.count →
      (A : List Location) (after : ℕ → ℕ → G) (later : ℕ → ℕ → H) →
      ((l s : ℕ) → 1 ≤ s → s ≤ w.count → Equated left right (after l s) (later l s)) →
      (l s i : ℕ) → 1 ≤ s → s ≤ i → i ≤ w.count → Equated left right (value S w A after l s i) (value T v A later l s i)

  -- and where v goes on, if w's boundary is related to what v has behind w's last event
  abbrev pub RelationalAhead : Type 0
  RelationalAhead =
      (left right : G → H → H) → Respects (Equated left right) S T →
      (w : Word G) (v : Word H) → Alike (Equated left right) S T w v →
      (A : List Location) (after : ℕ → ℕ → G) (later : ℕ → ℕ → H) →
      ((l s : ℕ) → 1 ≤ s → s ≤ w.count → Equated left right (after l s) (value T v A later l s (suc w.count))) →
      (l s i : ℕ) → 1 ≤ s → s ≤ i → i ≤ w.count → Equated left right (value S w A after l s i) (value T v A later l s i)

-- the cell table of a normal form
pub record Tabled (f : Normal) : Type 0 where
  -- stands for the automaton
  pub decodes : decoded (table f) (entries f) ≡ automaton f
  -- has as many cells and locations as are counted
  pub cells_counted : length (table f) ≡ size f + 1
  pub locations_counted : length (entries f) ≡ temporals f + 1
  pub temporals_counted : length (temporal_forms f) ≡ temporals f
  -- has at most nine cells and one location a form, and one of each for location 0
  pub cells_bounded : length (table f) ≤ 9 * normal_forms f + 1
  pub locations_bounded : length (entries f) ≤ normal_forms f + 1
  -- names in each cell only earlier cells and locations that there are
  pub earlier : (i : ℕ) → i < length (table f) → Below (length (entries f)) i (slice_index_or (table f) i cell_reject)
  -- and has each location's root among its cells
  pub rooted : (l : ℕ) → l < length (entries f) → (get_or (entries f) l (record { root = 0; final = false })).root < length (table f)
