-- A column of cells as it grows, and what stays beside it.
use Rattle.std.proofs.Common.{◌≡◌, ℕ, ◌+◌, ◌-◌, ◌*◌, ◌<◌, ◌≤◌, ◌≢◌, List, length, get_or, set, sym, refl, ap, ◌∙◌, subst, ap₂, arith, get_or-set_other, get_or-set_same, below_more}
use Rattle.scales.specs.Scales.{Ops}
use Rattle.logs.specs.declared.event.Event.{Event}
use Rattle.tables.specs.declared.cell.Cell.{Cell}
use Rattle.tables.specs.declared.cell.Cell.TheVariants.{Accept, Reject, Holds, Fails, And, Or, Inside, Outside, AtMost, Above, Reset, Jump}
use Rattle.evaluation.specs.declared.turn.Turn.{Turn}
use Rattle.evaluation.specs.Columns.{step, held_from, held, graded_by, Reach, Graded, Framed}

pub framed_more : {G : Type 0} (S : Ops G) (at k : ℕ) (old gs new : List G) (x : G) → new ≡ set gs (at + k) x →
    Framed S at k old gs → Framed S at (k + 1) old new
framed_more S at k old gs new x e f =
    let kept : (p : ℕ) → p ≢ at + k → get_or new p S.low ≡ get_or gs p S.low =
    λ p ne. ap (λ ns. get_or ns p S.low) e ∙ get_or-set_other gs (at + k) p x S.low ne in
    record {
      below = λ p h. let ne : p ≢ at + k = omega arith in kept p ne ∙ f.below p h;
      above = λ p h. let ne : p ≢ at + k = omega arith in kept p ne ∙ f.above p (omega arith);
    }

-- the cell at k names only earlier cells, and locations of which Q holds
abbrev pub Names : (ℕ → Type 0) → ℕ → Cell → Type 0
Names Q k Accept = Unit {0}
Names Q k Reject = Unit {0}
Names Q k (Holds p) = Unit {0}
Names Q k (Fails p) = Unit {0}
Names Q k (And a b) = (a < k) × (b < k)
Names Q k (Or a b) = (a < k) × (b < k)
Names Q k (Inside I) = Unit {0}
Names Q k (Outside I) = Unit {0}
Names Q k (AtMost u) = Unit {0}
Names Q k (Above u) = Unit {0}
Names Q k (Reset a) = a < k
Names Q k (Jump l) = Q l

-- the place of location l stands before the column
abbrev pub Before : Turn → ℕ → Type 0
Before t l = l * t.count + (t.at - 1) < t.base

-- a cell has one grade, whatever stands where it does not look
module _ {G : Type 0} (S : Ops G) (e : Event) (clock : ℕ) (own own' fresh fresh' next next' : ℕ → G) (Q : ℕ → Type 0) (k : ℕ)
    (same-own : (a : ℕ) → a < k → own a ≡ own' a) (same-fresh : (a : ℕ) → a < k → fresh a ≡ fresh' a)
    (same_next : (l : ℕ) → Q l → next l ≡ next' l) where
  pub step_same : (c : Cell) → Names Q k c → step S e clock own fresh next c ≡ step S e clock own' fresh' next' c
  step_same Accept h = refl
  step_same Reject h = refl
  step_same (Holds p) h = refl
  step_same (Fails p) h = refl
  step_same (And a b) h = ap₂ S.meet (same-own a h.0) (same-own b h.1)
  step_same (Or a b) h = ap₂ S.join (same-own a h.0) (same-own b h.1)
  step_same (Inside I) h = refl
  step_same (Outside I) h = refl
  step_same (AtMost u) h = refl
  step_same (Above u) h = refl
  step_same (Reset a) h = same-fresh a h
  step_same (Jump l) h = same_next l h

module _ (t : Turn) (k n : ℕ) (fits : t.base + k ≤ n) where
  pub reach : (c : Cell) → Names (Before t) k c → Reach t n c
  reach Accept h = tt
  reach Reject h = tt
  reach (Holds p) h = tt
  reach (Fails p) h = tt
  reach (And a b) h = (omega arith, omega arith)
  reach (Or a b) h = (omega arith, omega arith)
  reach (Inside I) h = tt
  reach (Outside I) h = tt
  reach (AtMost u) h = tt
  reach (Above u) h = tt
  reach (Reset a) h = omega arith
  reach (Jump l) h = omega arith

module _ {G : Type 0} (S : Ops G) (e : Event) (t : Turn) (n : ℕ) (fits : t.base + length t.automaton.cells.now ≤ n)
    (named : (k : ℕ) → k < length t.automaton.cells.now → Names (Before t) k (get_or t.automaton.cells.now k Accept)) where
  abbrev cells : List Cell
  cells = t.automaton.cells.now

  pub reach_at : (k : ℕ) → k < length cells → Reach t n (get_or cells k Accept)
  reach_at k h =
      let before : t.base + k ≤ n = omega arith in
      reach t k n before (get_or cells k Accept) (named k h)

  -- a write at cell k leaves what the cells up to k are graded from
  regraded : (k : ℕ) (gs : List G) (x : G) → k < length cells → (a : ℕ) → a ≤ k →
      graded_by S e t gs (get_or cells a Accept) ≡ graded_by S e t (set gs (t.base + k) x) (get_or cells a Accept)
  regraded k gs x inside a h =
      let at = t.base + k in
      let kept : (p : ℕ) → p ≢ at → get_or gs p S.low ≡ get_or (set gs at x) p S.low = λ p ne. sym (get_or-set_other gs at p x S.low ne) in
      let column : (b : ℕ) → b < a → held_from S gs t.base b ≡ held_from S (set gs at x) t.base b =
      λ b q. let ne : t.base + b ≢ at = omega arith in kept (t.base + b) ne in
      step_same S e 0 (held_from S gs t.base) (held_from S (set gs at x) t.base) (held_from S gs t.base) (held_from S (set gs at x) t.base)
      (λ l. held S t.count gs l t.at) (λ l. held S t.count (set gs at x) l t.at) (Before t) a column column
      (λ l q. let ne : l * t.count + (t.at - 1) ≢ at = omega arith in kept (l * t.count + (t.at - 1)) ne)
      (get_or cells a Accept) (named a (omega arith))

  pub graded_more : (k : ℕ) (gs new : List G) → length gs ≡ n → k < length cells →
      new ≡ set gs (t.base + k) (graded_by S e t gs (get_or cells k Accept)) → Graded S e t k gs → Graded S e t (k + 1) new
  graded_more k gs new long inside written graded =
      let at = t.base + k in
      let x = graded_by S e t gs (get_or cells k Accept) in
      let room : at < length gs = omega arith in
      subst (λ ns. Graded S e t (k + 1) ns) (sym written) (
      below_more (λ a. held_from S (set gs at x) t.base a ≡ graded_by S e t (set gs at x) (get_or cells a Accept)) k
      (λ a h. let ne : t.base + a ≢ at = omega arith in
      get_or-set_other gs at (t.base + a) x S.low ne ∙ graded a h ∙ regraded k gs x inside a (omega arith))
      (get_or-set_same gs at x S.low room ∙ regraded k gs x inside k (omega arith)))
