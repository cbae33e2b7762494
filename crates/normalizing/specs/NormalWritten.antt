-- The table that a normal form is written into, entry by entry as its parts end.
use Rattle.std.specs.Prelude.{◌≡◌, ℕ, ◌+◌, ◌-◌, ◌<◌, List, [], ◌∷◌, ◌++◌, length, Some, None, Option}
use Rattle.refusals.specs.declared.refusal.Refusal.{Refusal}
use Rattle.refusals.specs.declared.refusal.Refusal.TheVariants.{NormalFormTooLarge}
use Rattle.semantics.specs.Forms as meaning
use Rattle.semantics.specs.Normals.{Normal, normal_forms}
use Rattle.tables.specs.declared.interval.Interval.{Interval}
use Rattle.tables.specs.declared.normal_node.NormalNode.{NormalNode}
use Rattle.tables.specs.declared.normal_node.NormalNode.TheVariants.{Top, Bottom, Fact, Opposed, Both, Either, Next, DualNext, Until, Release}

abbrev pub upper_as : meaning.Upper → Option ℕ
upper_as meaning.Upper.none = None
upper_as (meaning.Upper.upto n) = Some n

-- an interval as an entry has it
abbrev pub interval_as : meaning.Interval → Interval
interval_as I = record { lower = I.lower; upper = upper_as I.upper }

-- the entries of a normal form that are written after b others
unfoldable pub normal_written : ℕ → Normal → List NormalNode
normal_written b Normal.top = Top ∷ []
normal_written b Normal.bottom = Bottom ∷ []
normal_written b (Normal.fact p) = Fact p ∷ []
normal_written b (Normal.opposed p) = Opposed p ∷ []
normal_written b (Normal.both f g) =
    normal_written b f ++ (normal_written (b + normal_forms f) g ++
    (Both (b + normal_forms f - 1) (b + normal_forms f + normal_forms g - 1) ∷ []))
normal_written b (Normal.either f g) =
    normal_written b f ++ (normal_written (b + normal_forms f) g ++
    (Either (b + normal_forms f - 1) (b + normal_forms f + normal_forms g - 1) ∷ []))
normal_written b (Normal.next I f) = normal_written b f ++ (Next (interval_as I) (b + normal_forms f - 1) ∷ [])
normal_written b (Normal.dual_next I f) = normal_written b f ++ (DualNext (interval_as I) (b + normal_forms f - 1) ∷ [])
normal_written b (Normal.until I f g) =
    normal_written b f ++ (normal_written (b + normal_forms f) g ++
    (Until (interval_as I) (b + normal_forms f - 1) (b + normal_forms f + normal_forms g - 1) ∷ []))
normal_written b (Normal.release I f g) =
    normal_written b f ++ (normal_written (b + normal_forms f) g ++
    (Release (interval_as I) (b + normal_forms f - 1) (b + normal_forms f + normal_forms g - 1) ∷ []))

-- one entry more, and its number
pub record Put (before after : List NormalNode) (n : NormalNode) (i : ℕ) : Type 0 where
  pub appended : after ≡ before ++ (n ∷ [])
  pub place : i ≡ length before

-- no room for one
pub record Full (before : List NormalNode) (e : Refusal) : Type 0 where
  pub is : e ≡ NormalFormTooLarge
  pub full : length before ≡ 64

-- the normal form f behind what was there, and the number of its last entry
pub record Normalized (before after : List NormalNode) (f : Normal) (i : ℕ) : Type 0 where
  pub appended : after ≡ before ++ normal_written (length before) f
  pub root : i + 1 ≡ length before + normal_forms f

-- no room for f
pub record TooLarge (before : List NormalNode) (f : Normal) (e : Refusal) : Type 0 where
  pub is : e ≡ NormalFormTooLarge
  pub over : 64 < length before + normal_forms f

-- the normal forms inside a normal form, and it, inner before outer
unfoldable pub normals_ended : Normal → List Normal
normals_ended Normal.top = Normal.top ∷ []
normals_ended Normal.bottom = Normal.bottom ∷ []
normals_ended (Normal.fact p) = Normal.fact p ∷ []
normals_ended (Normal.opposed p) = Normal.opposed p ∷ []
normals_ended (Normal.both f g) = normals_ended f ++ (normals_ended g ++ (Normal.both f g ∷ []))
normals_ended (Normal.either f g) = normals_ended f ++ (normals_ended g ++ (Normal.either f g ∷ []))
normals_ended (Normal.next I f) = normals_ended f ++ (Normal.next I f ∷ [])
normals_ended (Normal.dual_next I f) = normals_ended f ++ (Normal.dual_next I f ∷ [])
normals_ended (Normal.until I f g) = normals_ended f ++ (normals_ended g ++ (Normal.until I f g ∷ []))
normals_ended (Normal.release I f g) = normals_ended f ++ (normals_ended g ++ (Normal.release I f g ∷ []))
