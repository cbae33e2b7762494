-- The laws of the three scales.
use Rattle.std.specs.Prelude.{◌≡◌, refl, ℕ, ◌≤◌}
use Rattle.std.proofs.Common.{ap, arith}
use mathlib.Core.HLevel.{is_prop→PathP}
use Rattle.std.proofs.Math.Bridge.{le_prop}
use Rattle.scales.specs.Scales.{Laws}
use Rattle.scales.specs.Plains.{plain}
use Rattle.scales.specs.Doubts.{doubt}
use Rattle.scales.specs.Levels.{level}
use Rattle.scales.specs.declared.level.Level.{Level}
use Rattle.scales.specs.declared.plain.Plain.TheVariants.{No as PlainNo, Yes as PlainYes}
use Rattle.scales.specs.declared.doubt.Doubt.TheVariants.{No, Unknown, Yes}

pub plain_laws : Laws plain
plain_laws =
    record {
      join_assoc = λ a b c. grind arith;
      meet_assoc = λ a b c. grind arith;
      join_comm = λ a b. grind arith;
      meet_comm = λ a b. grind arith;
      join_absorbs = λ a b. grind arith;
      meet_absorbs = λ a b. grind arith;
      join_distributes = λ a b c. grind arith;
      meet_distributes = λ a b c. grind arith;
      low_neutral = λ a. refl;
      high_neutral = λ a. refl;
      apart = λ e. let z : ◌≡◌ {A = ℕ} 0 1 = cc in omega arith;
      opposite_twice = λ a. grind arith;
      opposite_join = λ a b. grind arith;
      shown_byte = elim [ PlainNo ↦ omega arith | PlainYes ↦ omega arith ];
      grade_shown = elim [ PlainNo ↦ refl | PlainYes ↦ refl ];
    }

pub doubt_laws : Laws doubt
doubt_laws =
    record {
      join_assoc = λ a b c. grind arith;
      meet_assoc = λ a b c. grind arith;
      join_comm = λ a b. grind arith;
      meet_comm = λ a b. grind arith;
      join_absorbs = λ a b. grind arith;
      meet_absorbs = λ a b. grind arith;
      join_distributes = λ a b c. grind arith;
      meet_distributes = λ a b c. grind arith;
      low_neutral = λ a. refl;
      high_neutral = λ a. refl;
      apart = λ e. let z : ◌≡◌ {A = ℕ} 0 1 = cc in omega arith;
      opposite_twice = λ a. grind arith;
      opposite_join = λ a b. grind arith;
      shown_byte = elim [ No ↦ omega arith | Unknown ↦ omega arith | Yes ↦ omega arith ];
      grade_shown = elim [ No ↦ refl | Unknown ↦ refl | Yes ↦ refl ];
    }

-- levels of one number are one level
pub same_level : (a b : Level) → a.value ≡ b.value → a ≡ b
same_level a b p = λ i. record { value = p i; bounded = is_prop→PathP (λ j. p j ≤ 255) (λ j. le_prop) a.bounded b.bounded i }

pub level_laws : Laws level
level_laws =
    record {
      join_assoc = λ a b c. same_level _ _ (omega arith);
      meet_assoc = λ a b c. same_level _ _ (omega arith);
      join_comm = λ a b. same_level _ _ (omega arith);
      meet_comm = λ a b. same_level _ _ (omega arith);
      join_absorbs = λ a b. same_level _ _ (omega arith);
      meet_absorbs = λ a b. same_level _ _ (omega arith);
      join_distributes = λ a b c. same_level _ _ (omega arith);
      meet_distributes = λ a b c. same_level _ _ (omega arith);
      low_neutral = λ a. same_level _ _ (omega arith);
      high_neutral = λ a. let p = a.bounded in same_level _ _ (omega arith);
      apart = λ e. let z : ◌≡◌ {A = ℕ} 0 255 = ap (λ (a : Level). a.value) e in omega arith;
      opposite_twice = λ a. let p = a.bounded in same_level _ _ (omega arith);
      opposite_join = λ a b. same_level _ _ (omega arith);
      shown_byte = λ a. a.bounded;
      grade_shown = λ a. let p = a.bounded in same_level _ _ (omega arith);
    }
