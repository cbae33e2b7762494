-- The worked cases: rules over short logs, with the numbers by which their grades are shown. 255 is yes, 128 unknown, 0 no.
use Rattle.std.specs.Prelude.{◌≡◌, ℕ, zero, suc, true, List, [], ◌∷◌, length, replicate}
use Rattle.logs.specs.declared.event.Event.{Event}
use Rattle.scales.specs.Scales.{Ops}
use Rattle.scales.specs.Plains.{plain}
use Rattle.scales.specs.Doubts.{doubt}
use Rattle.scales.specs.Levels.{level}
use Rattle.semantics.specs.Words.{word}
use Rattle.semantics.specs.Forms.{Form, Interval, none, upto, fact, opposite, implies, next, dual_next, eventually, always, forms, grade}
use Rattle.semantics.specs.Normals.{normal, normal_forms}
use Rattle.semantics.specs.Values.{run_value, floor, ceiling}
use Rattle.semantics.specs.Cells.{table, entries}

-- which scale a case is on
pub data Kind : Type 0 where
  on_plain on_doubt on_level : Kind

-- a case and what is expected of it
pub data Case : Type 0 where
  -- on this scale, this rule over these events has these grades, one an event
  graded : Kind → Form → List Event → List ℕ → Case
  -- at this event it has this floor and this ceiling
  outlook : Kind → Form → List Event → ℕ → ℕ → ℕ → Case
  -- this rule has so many forms, normal forms, locations and cells
  counted : Form → ℕ → ℕ → ℕ → ℕ → Case

-- the shown number of a grade that is defined on every scale
abbrev pub shown_on : Kind → ((G : Type 0) → Ops G → ℕ → G) → ℕ → ℕ
shown_on on_plain grade-at i = plain.shown (grade-at _ plain i)
shown_on on_doubt grade-at i = doubt.shown (grade-at _ doubt i)
shown_on on_level grade-at i = level.shown (grade-at _ level i)

-- n at each of k events, from event i on
abbrev pub each : (ℕ → ℕ) → ℕ → ℕ → List ℕ
each n i zero = []
each n i (suc k) = n i ∷ each n (suc i) k

-- a case holds: of the grades, by their definition and by the automaton's values alike
abbrev pub Holds : Case → Type 0
Holds (graded k f es ns) =
    (each (shown_on k (λ G S i. grade S (word S es) f i)) 1 (length es) ≡ ns) ×
    (each (shown_on k (λ G S i. run_value S (word S es) (normal true f) 0 i i)) 1 (length es) ≡ ns)
Holds (outlook k f es i low high) =
    (shown_on k (λ G S i. floor S (word S es) (normal true f) i) i ≡ low) ×
    (shown_on k (λ G S i. ceiling S (word S es) (normal true f) i) i ≡ high)
Holds (counted f fs ns ls cs) =
    (forms f ≡ fs) × (normal_forms (normal true f) ≡ ns) ×
    (length (entries (normal true f)) ≡ ls) × (length (table (normal true f)) ≡ cs)

-- each case of a list holds
abbrev pub AllHold : List Case → Type 0
AllHold [] = Unit {0}
AllHold (c ∷ cs) = Holds c × AllHold cs

-- the event at a time with these readings of a and b; those of the other facts are 0
abbrev pub reply : ℕ → ℕ → ℕ → Event
reply t a b = record { time = t; readings = a ∷ b ∷ replicate 14 0 }

-- the fact a
abbrev a : Form
a = fact 0

-- the fact b
abbrev b : Form
b = fact 1

-- [m,n]
abbrev from_to : ℕ → ℕ → Interval
from_to m n = record { lower = m; upper = upto n }

-- [m,*]
abbrev from : ℕ → Interval
from m = record { lower = m; upper = none }

-- G(a>F[0,30]b): every a is answered by a b within 30 ms
abbrev pub answered : Form
answered = always (from 0) (implies a (eventually (from_to 0 30) b))

-- the cases, in their order
abbrev pub cases : List Case
cases =
    -- 1: b comes in time; 2: b comes too late; 3: b is in doubt; 4: b by degrees
    graded on_plain answered (reply 0 255 0 ∷ reply 10 0 0 ∷ reply 30 0 255 ∷ []) (255 ∷ 255 ∷ 255 ∷ []) ∷
    graded on_plain answered (reply 0 255 0 ∷ reply 10 0 0 ∷ reply 31 0 255 ∷ []) (0 ∷ 255 ∷ 255 ∷ []) ∷
    graded on_doubt answered (reply 0 255 0 ∷ reply 10 0 0 ∷ reply 30 0 100 ∷ []) (128 ∷ 255 ∷ 255 ∷ []) ∷
    graded on_level answered (reply 0 200 0 ∷ reply 10 0 0 ∷ reply 30 0 100 ∷ []) (100 ∷ 255 ∷ 255 ∷ []) ∷
    -- 5: F[0,0]b sees another event of the same time
    graded on_plain (eventually (from_to 0 0) b) (reply 0 0 0 ∷ reply 0 0 255 ∷ []) (255 ∷ 255 ∷ []) ∷
    -- 6: with no next event, Xa is lowest and Ya highest
    graded on_plain (next (from 0) a) (reply 0 255 0 ∷ []) (0 ∷ []) ∷
    graded on_plain (dual_next (from 0) a) (reply 0 255 0 ∷ []) (255 ∷ []) ∷
    -- 7: X[5,*]b wants at least 5 ms in between
    graded on_plain (next (from 5) b) (reply 0 0 0 ∷ reply 4 0 255 ∷ []) (0 ∷ 0 ∷ []) ∷
    graded on_plain (next (from 5) b) (reply 0 0 0 ∷ reply 5 0 255 ∷ []) (255 ∷ 0 ∷ []) ∷
    -- 8: G[10,20]b where nothing falls into the interval
    graded on_plain (always (from_to 10 20) b) (reply 0 0 0 ∷ reply 25 0 0 ∷ []) (255 ∷ 255 ∷ []) ∷
    -- 9: F[0,30]b is open after one empty event, and settled once 30 ms have passed
    outlook on_plain (eventually (from_to 0 30) b) (reply 0 0 0 ∷ []) 1 0 255 ∷
    outlook on_plain (eventually (from_to 0 30) b) (reply 0 0 0 ∷ reply 40 0 0 ∷ []) 1 0 0 ∷
    -- 10: the counts of case 1's rule
    counted answered 5 7 3 24 ∷
    -- !Xa is not X!a: they differ where there is no next event
    graded on_plain (opposite (next (from 0) a)) (reply 0 255 0 ∷ []) (255 ∷ []) ∷
    graded on_plain (next (from 0) (opposite a)) (reply 0 255 0 ∷ []) (0 ∷ []) ∷
    -- the inner form of FF[0,30]b has a clock of its own, which starts where it is asked
    graded on_plain (eventually (from 0) (eventually (from_to 0 30) b)) (reply 0 0 0 ∷ reply 20 0 0 ∷ reply 40 0 255 ∷ [])
    (255 ∷ 255 ∷ 255 ∷ []) ∷ []

-- all of them hold
abbrev pub WorkedCases : Type 0
WorkedCases = AllHold cases
