-- The row of a location, from one start to the one before.
use Rattle.std.proofs.Common.{◌≡◌, ℕ, suc, ◌+◌, ◌-◌, ◌*◌, ◌<◌, ◌≤◌, ◌≢◌, List, length, get_or, set, sym, ap, ◌∙◌, subst, ap₂, inl, inr, ⊎_elim, true≢false, add-mul, one-mul, arith, get_or-set_other, get_or-set_same}
use Rattle.std.proofs.lemmas.Bool.{cases_eq, cases_lt}
use Rattle.std.proofs.lemmas.Nat.{mul-le}
use Rattle.scales.specs.Scales.{Ops, Laws}
use Rattle.logs.specs.declared.event.Event.{Event}
use Rattle.logs.specs.Logs.{event_at}
use Rattle.logs.proofs.Events.{event_here}
use Rattle.semantics.specs.Words.{word, elapsed}
use Rattle.semantics.specs.Forms.{Upper, within_upper}
use Rattle.semantics.specs.Automata.{reject}
use Rattle.semantics.specs.Values.{test}
use Rattle.semantics.specs.Continuations.{Timely}
use Rattle.tables.specs.declared.cell.Cell.{Cell}
use Rattle.tables.specs.declared.cell.Location.{Location}
use Rattle.tables.specs.Intervals.{upper_of}
use Rattle.evaluation.specs.declared.turn.Turn.{Turn}
use Rattle.evaluation.specs.declared.segments.Segment.{Segment}
use Rattle.evaluation.specs.Columns.{held, Framed}
use Rattle.evaluation.specs.Rows.{no_location}
use Rattle.evaluation.specs.Clauses.{clauses}
use Rattle.evaluation.specs.Deadlines.{deadline}
use Rattle.evaluation.specs.Segments.{own_value, horizon}
use Rattle.evaluation.specs.Times.{Rising}
use Rattle.evaluation.specs.Passes.{worth, cell_grade, fresh_value, Timed, Fresh, RowAt, Valued, Segmented, Deadline, RowDone, RowsDone}
use Rattle.evaluation.proofs.Places.{place_below, row_fits}
use Rattle.evaluation.proofs.Grading.{worth_is}
use Rattle.evaluation.proofs.Turns.{sound}
use Rattle.evaluation.proofs.Interpolating.{Until, owned, horizon_here, segment_same, interpolated}
use Rattle.evaluation.proofs.Deciding.{Passed, passed_on, decided}

-- a write at a place
pub moved_start : {G : Type 0} (S : Ops G) (gs : List G) (p q : ℕ) (x : G) → p ≡ q → p < length gs →
    (get_or (set gs p x) q S.low ≡ x) × Framed S q 1 gs (set gs p x)
moved_start S gs p q x same inside = (
  ap (λ y. get_or (set gs p x) y S.low) (sym same) ∙ get_or-set_same gs p x S.low inside,
  record {
    below = λ y h. let ne : y ≢ p = omega arith in get_or-set_other gs p y x S.low ne;
    above = λ y h. let ne : y ≢ p = omega arith in get_or-set_other gs p y x S.low ne;
  },
)

-- times never fall
times_rise : (es : List Event) → Timely es → (r s : ℕ) → 0 < r → r ≤ s → s ≤ length es → (event_at es r).time ≤ (event_at es s).time
times_rise es timely r s begun order logged =
    omega (arith, timely (r - 1) (s - 1) (omega arith) (omega arith), ap (λ (e : Event). e.time) (event_here es r (omega arith)), ap (λ (e : Event). e.time) (event_here es s (omega arith)))

-- and so the times asked of the log do not
pub times_rising : (es : List Event) (n : ℕ) (times : List ℕ) → Timed es n times → Rising n times
times_rising es n times timed j k order inside =
    let counted = timed.counted in
    let there : (r : ℕ) → r < n → get_or times r 0 ≡ (event_at es (suc r)).time =
    λ r h. let same : suc r - 1 ≡ r = omega arith in ap (λ x. get_or times x 0) (sym same) ∙ timed.told (suc r) (omega arith) (omega arith) in
    omega (arith, there j (omega arith), there k inside, times_rise es timed.timely (suc j) (suc k) (omega arith) (omega arith) (omega arith))

-- the clock of a start, from the times
pub clocked : {G : Type 0} (S : Ops G) (times : List ℕ) (s i n clock : ℕ) → 1 < s → s ≤ i → i ≤ n → clock ≡ get_or times (i - 1) 0 - get_or times (s - 1 - 1) 0 →
    (es : List Event) → Timed es n times → clock ≡ elapsed (word S es) (s - 1) i
clocked S times s i n clock some order logged is es timed =
    omega (arith, timed.told i (omega arith) logged, timed.told (s - 1) (omega arith) (omega arith))

-- the clock of an earlier start has not less
pub clock_rises : (times : List ℕ) (n s i since clock : ℕ) → Rising n times → 1 < s → s ≤ i → i ≤ n → since ≤ get_or times (i - 1) 0 - get_or times (s - 1) 0 →
    clock ≡ get_or times (i - 1) 0 - get_or times (s - 1 - 1) 0 → since ≤ clock
clock_rises times n s i since clock rising some order logged before is = omega (arith, rising (s - 1 - 1) (s - 1) (omega arith) (omega arith))

-- the starts of location l from s on are done
pub record Reached {G : Type 0} (S : Ops G) (t : Turn) (l s : ℕ) (old new : List G) : Type 0 where
  pub done :
      (es : List Event) (after : ℕ → ℕ → G) → Timed es t.count t.times.now → Fresh S es after t old → RowAt S es after t l (suc t.at) old →
      (r : ℕ) → s ≤ r → r < t.at → held S t.count new l r ≡ worth S es t.automaton.cells.now t.automaton.locations.now after l r t.at
  pub framed : Framed S (l * t.count + (s - 1)) (t.at - s) old new

module _ {G : Type 0} (S : Ops G) (laws : Laws S) (t : Turn) (m : ℕ) (fits : t.base + length t.automaton.cells.now ≤ m)
    (l : ℕ) (there : l < length t.automaton.locations.now) where
  abbrev cells : List Cell
  cells = t.automaton.cells.now

  abbrev locations : List Location
  locations = t.automaton.locations.now

  abbrev times : List ℕ
  times = t.times.now

  abbrev root : ℕ
  root = (get_or locations l no_location).root

  -- the column stands behind the rows
  fresh_kept : (s : ℕ) (old new : List G) → 0 < s → s ≤ t.at → Framed S (l * t.count + (s - 1)) (t.at - s) old new →
      (es : List Event) (after : ℕ → ℕ → G) → Fresh S es after t old → Fresh S es after t new
  fresh_kept s old new begun order framed es after fresh a h =
      let last = place_below l t.count t.at (length locations) there t.begun t.logged in
      framed.above (t.base + a) (omega (arith, t.based)) ∙ fresh a h

  -- a segment of the memory as it is now is one of the memory as it was, since the column stays
  pub segment_kept : (s : ℕ) (old gs : List G) (g : Segment G) → 0 < s → s ≤ t.at → Reached S t l s old gs →
      Segmented S t gs root g → Segmented S t old root g
  segment_kept s old gs g begun order reached segmented =
      record {
        ends = segmented.ends;
        lowest = λ es after fresh. segmented.lowest es after (fresh_kept s old gs begun order reached.framed es after fresh);
        highest = λ es after fresh. segmented.highest es after (fresh_kept s old gs begun order reached.framed es after fresh);
      }

  -- a segment that is right by a clock
  pub record Fitting (old : List G) (clock : ℕ) (g : Segment G) : Type 0 where
    pub segmented : Segmented S t old root g
    pub since : g.since ≤ clock
    pub until : Until (upper_of g.horizon) clock

  -- the one made by that clock is
  pub fitting_new : (s : ℕ) (old gs : List G) (clock : ℕ) (g : Segment G) → 0 < s → s ≤ t.at → Reached S t l s old gs →
      g.since ≡ clock → Segmented S t gs root g → Fitting old clock g
  fitting_new s old gs clock g begun order reached is segmented =
      record {
        segmented = segment_kept s old gs g begun order reached segmented;
        since = omega arith;
        until = ap (λ u. within_upper u clock) (segmented.ends ∙ ap (λ x. horizon x (get_or (clauses cells) root reject)) is) ∙ horizon_here (get_or (clauses cells) root reject) clock;
      }

  -- the value of a start by a segment
  by_segment : (es : List Event) (after : ℕ → ℕ → G) (s clock : ℕ) (g : Segment G) (old : List G) → Fresh S es after t old → t.at ≤ length es →
      clock ≡ elapsed (word S es) s t.at → Fitting old clock g →
      S.join (S.meet (worth S es cells locations after l s (suc t.at)) g.high) g.low ≡ worth S es cells locations after l s t.at
  unfolding cell_grade
  by_segment es after s clock g old fresh in_log is fitting =
      let segmented = fitting.segmented in
      let clause = get_or (clauses cells) root reject in
      let value = fresh_value S es cells locations after t.at in
      let next = worth S es cells locations after l s (suc t.at) in
      ap₂ (λ a b. S.join (S.meet next a) b) (segmented.highest es after fresh) (segmented.lowest es after fresh)
      ∙ sym (interpolated S laws value g.since next clause)
      ∙ segment_same S value g.since clock next fitting.since clause (subst (λ u. Until u clock) segmented.ends fitting.until)
      ∙ ap (λ x. own_value S value x next clause) is
      ∙ sym (owned S (word S es) (λ k r. worth S es cells locations after k r (suc t.at)) l s t.at clause ((sound t.automaton).homes l there))
      ∙ sym (worth_is cells locations S es after l s t.at there in_log)

  -- the value of a start, as it is asked
  by_value : (es : List Event) (after : ℕ → ℕ → G) (s clock : ℕ) (next x : G) (gs : List G) → Fresh S es after t gs → t.at ≤ length es →
      clock ≡ elapsed (word S es) s t.at → next ≡ worth S es cells locations after l s (suc t.at) → Valued S t clock next gs root x →
      x ≡ worth S es cells locations after l s t.at
  unfolding cell_grade
  by_value es after s clock next x gs fresh in_log is stood valued =
      let clause = get_or (clauses cells) root reject in
      let value = fresh_value S es cells locations after t.at in
      valued es after fresh
      ∙ ap (λ y. own_value S value clock y clause) stood
      ∙ ap (λ y. own_value S value y (worth S es cells locations after l s (suc t.at)) clause) is
      ∙ sym (owned S (word S es) (λ k r. worth S es cells locations after k r (suc t.at)) l s t.at clause ((sound t.automaton).homes l there))
      ∙ sym (worth_is cells locations S es after l s t.at there in_log)

  -- one start more, whose place takes its value
  reached_put : (s s₁ p : ℕ) (x : G) (old gs new : List G) → s₁ ≡ suc s → 0 < s → s₁ ≤ t.at → length gs ≡ m → p ≡ l * t.count + (s - 1) → Reached S t l s₁ old gs →
      ((es : List Event) (after : ℕ → ℕ → G) → Timed es t.count times → Fresh S es after t old → t.at ≤ length es →
      get_or gs p S.low ≡ worth S es cells locations after l s (suc t.at) → x ≡ worth S es cells locations after l s t.at) →
      new ≡ set gs p x → Reached S t l s old new
  reached_put s s₁ p x old gs new next begun order long at reached worths wrote =
      let before : Framed S (l * t.count + (s₁ - 1)) (t.at - s₁) old gs = reached.framed in
      let inside : p < length gs = omega (arith, place_below l t.count s (length locations) there begun (omega (arith, t.logged)), t.based, fits) in
      let put = moved_start S gs p (l * t.count + (s - 1)) x at inside in
      let framed : Framed S (l * t.count + (s - 1)) 1 gs new = subst (Framed S (l * t.count + (s - 1)) 1 gs) (sym wrote) put.1 in
      record {
        done =
            λ es after timed fresh row r h q.
            let in_log : t.at ≤ length es = omega (arith, timed.counted, t.logged) in
            let stood : get_or gs p S.low ≡ worth S es cells locations after l s (suc t.at) =
            ap (λ k. get_or gs k S.low) at ∙ before.below (l * t.count + (s - 1)) (omega arith) ∙ row s begun (omega arith) in
            let here : held S t.count new l s ≡ worth S es cells locations after l s t.at =
            ap (λ gs. get_or gs (l * t.count + (s - 1)) S.low) wrote ∙ put.0 ∙ worths es after timed fresh in_log stood in
            ⊎_elim
            (λ e. subst (λ y. held S t.count new l y ≡ worth S es cells locations after l y t.at) (sym e) here)
            (λ ne. framed.above (l * t.count + (r - 1)) (omega arith) ∙ reached.done es after timed fresh row r (omega arith) q)
            (cases_eq r s);
        framed = record {
          below = λ p h. framed.below p h ∙ before.below p (omega arith);
          above = λ p h. framed.above p (omega arith) ∙ before.above p (omega arith);
        };
      }

  pub reached_more : (s s₁ clock p : ℕ) (g : Segment G) (old gs new : List G) → s₁ ≡ suc s → 0 < s → s₁ ≤ t.at → length gs ≡ m → p ≡ l * t.count + (s - 1) →
      ((es : List Event) → Timed es t.count times → clock ≡ elapsed (word S es) s t.at) → Fitting old clock g → Reached S t l s₁ old gs →
      new ≡ set gs p (S.join (S.meet (get_or gs p S.low) g.high) g.low) → Reached S t l s old new
  reached_more s s₁ clock p g old gs new next begun order long at clocks fitting reached =
      reached_put s s₁ p (S.join (S.meet (get_or gs p S.low) g.high) g.low) old gs new next begun order long at reached
      (λ es after timed fresh in_log stood. ap (λ y. S.join (S.meet y g.high) g.low) stood ∙ by_segment es after s clock g old fresh in_log (clocks es timed) fitting)

  pub reached_value : (s s₁ clock p : ℕ) (x : G) (old gs new : List G) → s₁ ≡ suc s → 0 < s → s₁ ≤ t.at → length gs ≡ m → p ≡ l * t.count + (s - 1) →
      ((es : List Event) → Timed es t.count times → clock ≡ elapsed (word S es) s t.at) → Valued S t clock (get_or gs p S.low) gs root x → Reached S t l s₁ old gs →
      new ≡ set gs p x → Reached S t l s old new
  reached_value s s₁ clock p x old gs new next begun order long at clocks valued reached =
      reached_put s s₁ p x old gs new next begun order long at reached
      (λ es after timed fresh in_log stood.
      by_value es after s clock (get_or gs p S.low) x gs (fresh_kept s₁ old gs (omega arith) order reached.framed es after fresh) in_log (clocks es timed) stood valued)

  wider : (s : ℕ) (old new : List G) → 0 < s → s ≤ t.at → Framed S (l * t.count + (s - 1)) (t.at - s) old new → Framed S (l * t.count) (t.at - 1) old new
  wider s old new begun order framed =
      record {
        below = λ p h. framed.below p (omega arith);
        above = λ p h. framed.above p (omega arith);
      }

  pub reached_all : (s : ℕ) (old new : List G) → s ≡ 1 → Reached S t l s old new → RowDone S t l old new
  reached_all s old new first reached =
      record {
        done = λ es after timed fresh row r h q. reached.done es after timed fresh row r (omega arith) q;
        framed = wider s old new (omega arith) (omega (arith, t.begun)) reached.framed;
      }

  -- behind its deadline a location has the same value at this event and the next
  decided_at : (u : Upper) (es : List Event) (after : ℕ → ℕ → G) (r i : ℕ) → u ≡ deadline (get_or locations l no_location).is_final (get_or (clauses cells) root reject) →
      i ≤ length es → Passed u (elapsed (word S es) r i) → worth S es cells locations after l r i ≡ test S (get_or locations l no_location).is_final
  unfolding cell_grade
  decided_at u es after r i is logged passed =
      worth_is cells locations S es after l r i there logged
      ∙ decided S laws (word S es) (λ k q. worth S es cells locations after k q (suc i)) r i (get_or (clauses cells) root reject) (get_or locations l no_location).is_final
      (subst (λ v. Passed v (elapsed (word S es) r i)) is passed)

  pub reached_passed : (s clock : ℕ) (u : Upper) (old gs : List G) → 1 < s → s ≤ t.at → Deadline t l u → Passed u clock →
      ((es : List Event) → Timed es t.count times → clock ≡ elapsed (word S es) (s - 1) t.at) → Reached S t l s old gs → RowDone S t l old gs
  reached_passed s clock u old gs some order due passed clocks reached =
      record {
        done =
            λ es after timed fresh row r h q.
            elim (cases_lt r s) [
              | inr from ↦ reached.done es after timed fresh row r from q
              | inl before ↦
                  elim due [
                    | inl never ↦ absurd (true≢false (ap (λ v. within_upper v clock) (sym never) ∙ passed))
                    | inr known ↦
                        let counted = timed.counted in
                        let timely = timed.timely in
                        let now_logged : t.at ≤ length es = omega (arith, known.0) in
                        let next_logged : suc t.at ≤ length es = omega (arith, known.0) in
                        let earlier = times_rise es timely r (s - 1) h (omega arith) (omega arith) in
                        let later = times_rise es timely t.at (suc t.at) t.begun (omega arith) next_logged in
                        let here : Passed u (elapsed (word S es) r t.at) = passed_on u clock (elapsed (word S es) r t.at) (omega (arith, clocks es timed)) passed in
                        let next : Passed u (elapsed (word S es) r (suc t.at)) = passed_on u (elapsed (word S es) r t.at) (elapsed (word S es) r (suc t.at)) (omega arith) here in
                        reached.framed.below (l * t.count + (r - 1)) (omega arith) ∙ row r h q
                        ∙ decided_at u es after r (suc t.at) known.1 next_logged next
                        ∙ sym (decided_at u es after r t.at known.1 now_logged here)
                  ]
            ];
        framed = wider s old gs (omega arith) order reached.framed;
      }

-- from one location to the next

module _ {G : Type 0} (S : Ops G) (t : Turn) where
  pub rows_more : (j : ℕ) (old gs new : List G) → j < length t.automaton.locations.now → RowsDone S t j old gs → RowDone S t j gs new →
      RowsDone S t (j + 1) old new
  rows_more j old gs new inside before row =
      let n = t.count in
      let further : (j + 1) * n ≡ j * n + n = simp (add-mul, one-mul) in
      let in_log = t.logged in
      let begun = t.begun in
      let fits = row_fits j n (length t.automaton.locations.now) inside in
      record {
        done =
            λ es after timed fresh rows l h q r p z.
            ⊎_elim
            (λ e. subst (λ k. held S n new k r ≡ worth S es t.automaton.cells.now t.automaton.locations.now after k r t.at) (sym e)
            (row.done es after timed
            (λ a i. before.behind (t.base + a) (omega (arith, t.based)) ∙ fresh a i)
            (λ x y i. before.behind (j * n + (x - 1)) (omega arith) ∙ rows j (omega arith) inside x y i) r p z))
            (λ ne. let less : l < j = omega arith in
            row.framed.below (l * n + (r - 1)) (place_below l n r j less p (omega arith)) ∙ before.done es after timed fresh rows l h less r p z)
            (cases_eq l j);
        kept =
            λ l r h p q z.
            let same : held S n new l r ≡ held S n gs l r =
            elim (cases_lt l j) [
              | inl less ↦ row.framed.below (l * n + (r - 1)) (place_below l n r j less p z)
              | inr more ↦ row.framed.above (l * n + (r - 1)) (omega (arith, mul-le j n l n more (omega arith)))
            ] in
            same ∙ before.kept l r h p q z;
        behind = λ p h. row.framed.above p (omega arith) ∙ before.behind p (omega arith);
      }
