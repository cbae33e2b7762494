-- How long the parts of a report are, and the lines of one event more.
use Rattle.std.proofs.Common.{◌≡◌, ℕ, zero, suc, ◌+◌, ◌*◌, ◌^◌, ◌<◌, ◌≤◌, List, ◌++◌, length, codes, decimal, refl, ap, ap₂, add-one, arith, length-append}
use Rattle.std.proofs.lemmas.List.{length_push}
use Rattle.std.proofs.lemmas.Fmt.{length-decimal-le}
use Rattle.scales.specs.declared.doubt.Doubt.{Doubt}
use Rattle.scales.specs.declared.doubt.Doubt.TheVariants.{No, Unknown, Yes}
use Rattle.scales.specs.Doubts.{doubt}
use Rattle.logs.specs.declared.event.Event.{Event}
use Rattle.logs.specs.Logs.{event_at, Lawful}
use Rattle.logs.proofs.Events.{event_next}
use Rattle.reporting.specs.Listing.{field, line, lines, listed_by, refused_line}

pub field_short : (k n end : ℕ) → 0 < k → n < 10 ^ k → n < 2 ^ 64 → length (field n end) ≤ k + 1
unfolding field
field_short k n end some low fits = omega (arith, length_push (decimal n) end, length-decimal-le k n some low fits)

pub shown_byte : (d : Doubt) → doubt.shown d ≤ 255
shown_byte No = omega arith
shown_byte Unknown = omega arith
shown_byte Yes = omega arith

pub line_short : (i time shown : ℕ) → i ≤ 512 → time ≤ 4000000000000 → shown ≤ 255 → length (line i time shown) ≤ 22
unfolding line
line_short i time shown few early byte =
    omega (
      arith,
      length-append (field i 32) (field time 32 ++ field shown 10),
      length-append (field time 32) (field shown 10),
      field_short 3 i 32 (omega arith) (omega arith) (omega arith),
      field_short 13 time 32 (omega arith) (omega arith) (omega arith),
      field_short 3 shown 10 (omega arith) (omega arith) (omega arith),
    )

pub refused_short : (n : ℕ) → n ≤ 255 → length (refused_line n) ≤ 12
unfolding refused_line
refused_short n byte = let short = field_short 3 n 10 (omega arith) (omega arith) (omega arith) in omega arith

module _ (es : List Event) where
  pub lines_more : (g : ℕ → Doubt) (k : ℕ) → lines es g (k + 1) ≡ lines es g k ++ line (k + 1) (event_at es (k + 1)).time (doubt.shown (g (k + 1)))
  unfolding lines
  lines_more g k = rw add-one refl

  -- grades that are the same give the same lines
  pub lines_same : (g h : ℕ → Doubt) (k : ℕ) → ((i : ℕ) → 0 < i → i ≤ k → g i ≡ h i) → lines es g k ≡ lines es h k
  unfolding lines
  lines_same g h zero same = refl
  lines_same g h (suc k) same =
      ap₂ (λ xs (d : Doubt). xs ++ line (suc k) (event_at es (suc k)).time (doubt.shown d))
      (lines_same g h k (λ i some le. same i some (omega arith))) (same (suc k) (omega arith) (omega arith))

  pub listed_same : (g h : ℕ → Doubt) → ((i : ℕ) → 0 < i → i ≤ length es → g i ≡ h i) → listed_by es g ≡ listed_by es h
  unfolding listed_by
  listed_same g h same = ap (λ xs. codes "events " ++ (field (length es) 10 ++ xs)) (lines_same g h (length es) same)

  module _ (laws : Lawful es) where
    pub time_within : (k : ℕ) → k < length es → (event_at es (k + 1)).time ≤ 4000000000000
    time_within k lt = omega (arith, ap (λ (e : Event). e.time) (event_next es k), laws.within k lt)

  module _ (laws : Lawful es) (g : ℕ → Doubt) where
    pub lines_short : (k : ℕ) → k ≤ length es → length (lines es g k) ≤ 22 * k
    unfolding lines
    lines_short zero le = omega arith
    lines_short (suc k) le =
        let few = laws.few in
        let time : (event_at es (suc k)).time ≤ 4000000000000 = rw (← add-one k) (time_within laws k (omega arith)) in
        let here = line_short (suc k) (event_at es (suc k)).time (doubt.shown (g (suc k))) (omega arith) time (shown_byte (g (suc k))) in
        omega (arith, length-append (lines es g k) (line (suc k) (event_at es (suc k)).time (doubt.shown (g (suc k)))), lines_short k (omega arith))

    pub listed_short : length (listed_by es g) ≤ 11275
    unfolding listed_by
    listed_short =
        let few = laws.few in
        omega (
          arith,
          length-append (field (length es) 10) (lines es g (length es)),
          field_short 3 (length es) 10 (omega arith) (omega arith) (omega arith),
          lines_short (length es) (omega arith),
        )
