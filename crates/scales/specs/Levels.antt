-- Level: the numbers 0 to 255, join the larger, meet the smaller, the opposite 255 less; a reading is its own grade and shown number.
use Rattle.std.specs.Prelude.{ℕ, ◌-◌, ◌≤◌, min, max}
use Rattle.std.proofs.Common.{arith}
use Rattle.scales.specs.Scales.{Ops}
use Rattle.scales.specs.declared.level.Level.{Level}

abbrev pub of_value : (n : ℕ) → n ≤ 255 → Level
of_value n h = record { value = n; bounded = h }

abbrev pub level : Ops Level
level = record {
  low = of_value 0 (omega arith);
  high = of_value 255 (omega arith);
  join = λ a b. of_value (max a.value b.value) (let p = a.bounded in let q = b.bounded in omega arith);
  meet = λ a b. of_value (min a.value b.value) (let p = a.bounded in omega arith);
  opposite = λ a. of_value (255 - a.value) (omega arith);
  grade = λ r. of_value (min r 255) (omega arith);
  shown = λ a. a.value;
}
