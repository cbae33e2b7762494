-- Doubt: no, unknown and yes, rising, shown as 0, 128 and 255; readings below 64, below 192, and the rest.
use Rattle.std.specs.Prelude.{cond, ℕ, ltb}
use Rattle.scales.specs.Scales.{Ops}
use Rattle.scales.specs.declared.doubt.Doubt.{Doubt}
use Rattle.scales.specs.declared.doubt.Doubt.TheVariants.{No, Unknown, Yes}

abbrev either : Doubt → Doubt → Doubt
either No b = b
either Unknown No = Unknown
either Unknown Unknown = Unknown
either Unknown Yes = Yes
either Yes b = Yes

abbrev both : Doubt → Doubt → Doubt
both No b = No
both Unknown No = No
both Unknown Unknown = Unknown
both Unknown Yes = Unknown
both Yes b = b

abbrev turned : Doubt → Doubt
turned No = Yes
turned Unknown = Unknown
turned Yes = No

abbrev shown_as : Doubt → ℕ
shown_as No = 0
shown_as Unknown = 128
shown_as Yes = 255

abbrev pub doubt : Ops Doubt
doubt = record {
  low = No;
  high = Yes;
  join = either;
  meet = both;
  opposite = turned;
  grade = λ r. cond (ltb r 64) No (cond (ltb r 192) Unknown Yes);
  shown = shown_as;
}
