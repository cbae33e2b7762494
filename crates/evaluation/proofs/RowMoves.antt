-- The rows of memory as they are written.
use Rattle.std.proofs.Common.{◌≡◌, ℕ, ◌+◌, ◌-◌, ◌*◌, ◌<◌, ◌≤◌, ◌≢◌, List, length, get_or, set, sym, ◌∙◌, subst, arith, get_or-set_other, get_or-set_same, below_more}
use Rattle.scales.specs.Scales.{Ops}
use Rattle.tables.specs.declared.cell.Location.{Location}
use Rattle.evaluation.specs.declared.turn.Turn.{Turn}
use Rattle.evaluation.specs.Columns.{held_from, held}
use Rattle.evaluation.specs.Rows.{no_location, Moved}
use Rattle.evaluation.proofs.Places.{place_below, same_event, same_row}

module _ {G : Type 0} (S : Ops G) (t : Turn) (j : ℕ) (old gs : List G) (fits : t.base + length t.automaton.cells.now ≤ length gs)
    (inside : j < length t.automaton.locations.now) (moved : Moved S t j old gs) where
  abbrev locations : List Location
  locations = t.automaton.locations.now

  abbrev root : ℕ
  root = (get_or locations j no_location).root

  abbrev grade : G
  grade = held_from S gs t.base root

  abbrev at : ℕ
  at = j * t.count + (t.at - 1)

  pub moved_more : (new : List G) → new ≡ set gs at grade → Moved S t (j + 1) old new
  moved_more new written =
      let n = t.count in
      let s = t.at in
      let started = t.begun in
      let logged = t.logged in
      let lt : at < length locations * n = place_below j n s (length locations) inside started logged in
      let room : at < length gs = omega (arith, t.based) in
      subst (λ ns. Moved S t (j + 1) old ns) (sym written) (record {
        wrote =
            below_more (λ l. held S n (set gs at grade) l s ≡ held_from S old t.base (get_or locations l no_location).root) j
            (λ l h. let ne : l * n + (s - 1) ≢ at = λ e. let same : l ≡ j = same_row l j n s s started logged started logged e in omega arith in
            get_or-set_other gs at (l * n + (s - 1)) grade S.low ne ∙ moved.wrote l h)
            (get_or-set_same gs at grade S.low room ∙ moved.beyond (t.base + root) (omega (arith, t.based)));
        others =
            λ l r h p q apart.
            let ne : l * n + (r - 1) ≢ at = λ e. apart (same_event l j n r s p q started logged e) in
            get_or-set_other gs at (l * n + (r - 1)) grade S.low ne ∙ moved.others l r h p q apart;
        beyond = λ p h. let ne : p ≢ at = omega arith in get_or-set_other gs at p grade S.low ne ∙ moved.beyond p h;
      })
