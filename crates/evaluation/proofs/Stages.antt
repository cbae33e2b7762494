-- The memory from one event to the one before.
use Rattle.std.proofs.Common.{◌≡◌, ℕ, suc, ◌+◌, ◌-◌, ◌*◌, ◌<◌, ◌≤◌, ◌≢◌, List, length, get_or, sym, ◌∙◌, subst, ⊎_elim, arith}
use Rattle.std.proofs.lemmas.Bool.{cases_eq}
use Rattle.scales.specs.Scales.{Ops}
use Rattle.logs.specs.declared.event.Event.{Event}
use Rattle.logs.specs.Logs.{event_at, Lawful, Tells}
use Rattle.logs.proofs.Events.{told, event_here}
use Rattle.tables.specs.declared.cell.Cell.{Cell}
use Rattle.tables.specs.declared.cell.Location.{Location}
use Rattle.evaluation.specs.declared.turn.Turn.{Turn}
use Rattle.evaluation.specs.Columns.{held, Graded, Framed}
use Rattle.evaluation.specs.Rows.{no_location, Moved}
use Rattle.evaluation.specs.Passes.{worth, Fresh, Settled, Timed, RowsDone, EventDone}
use Rattle.evaluation.proofs.Grading.{column_is, worth_is}
use Rattle.evaluation.proofs.Turns.{sound, row_first}

-- what a log tells of an event is the event
pub event_told : (es : List Event) → Lawful es → (n i : ℕ) → n ≡ length es → 0 < i → i ≤ n → (e : Event) → Tells es i e → e ≡ event_at es i
event_told es lawful n i counted begun logged e tells =
    let first : 1 ≤ i = omega arith in
    let last : i ≤ length es = omega arith in
    told es lawful i first last e tells ∙ sym (event_here es i first)

module _ (t : Turn) {G : Type 0} (S : Ops G) (es : List Event) (timed : Timed es t.count t.times.now) (e : Event) (told : e ≡ event_at es t.at)
    (old mid done new : List G) (graded : Graded S e t (length t.automaton.cells.now) mid) (framed : Framed S t.base (length t.automaton.cells.now) old mid)
    (rows : RowsDone S t (length t.automaton.locations.now) mid done) (moved : Moved S t (length t.automaton.locations.now) done new) where
  abbrev cells : List Cell
  cells = t.automaton.cells.now

  abbrev locations : List Location
  locations = t.automaton.locations.now

  in_log : t.at ≤ length es
  in_log = omega (arith, timed.counted, t.logged)

  module _ (over : ℕ → ℕ → G) (settled : Settled S es cells locations over t.count (suc t.at) old) where
    -- the places before the column are as they were
    place : (l r : ℕ) → l < length locations → 0 < r → r ≤ t.count → held S t.count mid l r ≡ held S t.count old l r
    place l r h p q = framed.below (l * t.count + (r - 1)) (row_first t l r h p q)

    fresh : Fresh S es over t mid
    fresh =
        column_is S es over t (sound t.automaton) e mid told
        (λ l p h. place l t.at h t.begun t.logged ∙ settled.ahead l t.at p h t.begun (omega arith) t.logged)
        graded (length cells) (omega arith)

    here : (l : ℕ) → l < length locations → held S t.count new l t.at ≡ worth S es cells locations over l t.at t.at
    here l h =
        let root = (get_or locations l no_location).root in
        moved.wrote l h ∙ rows.behind (t.base + root) (omega (arith, t.based)) ∙ fresh root ((sound t.automaton).rooted l h)
        ∙ sym (worth_is cells locations S es over l t.at t.at h in_log)

    next_settled : Settled S es cells locations over t.count t.at new
    next_settled =
        record {
          own =
              λ l r h p q z.
              ⊎_elim
              (λ x. subst (λ y. held S t.count new l y ≡ worth S es cells locations over l y y) (sym x) (here l h))
              (λ ne. moved.others l r h p z ne ∙ rows.kept l r h p q z ∙ place l r h p z ∙ settled.own l r h p (omega arith) z)
              (cases_eq r t.at);
          ahead =
              λ l r p h q z i.
              let ne : r ≢ t.at = omega arith in
              moved.others l r h q i ne
              ∙ rows.done es over timed fresh
              (λ k a b x y w. place k x b y (omega (arith, t.logged)) ∙ settled.ahead k x a b y (omega arith) (omega (arith, t.logged)))
              l p h r q z;
        }

  pub event_done : EventDone S es t old new
  event_done over settled = next_settled over settled
