-- Plain: no and yes, shown as 0 and 255; a reading of 128 or more is yes.
use Rattle.std.specs.Prelude.{cond, ℕ, ltb}
use Rattle.scales.specs.Scales.{Ops}
use Rattle.scales.specs.declared.plain.Plain.{Plain}
use Rattle.scales.specs.declared.plain.Plain.TheVariants.{No, Yes}

abbrev either : Plain → Plain → Plain
either No b = b
either Yes b = Yes

abbrev both : Plain → Plain → Plain
both No b = No
both Yes b = b

abbrev turned : Plain → Plain
turned No = Yes
turned Yes = No

abbrev shown_as : Plain → ℕ
shown_as No = 0
shown_as Yes = 255

abbrev pub plain : Ops Plain
plain = record {
  low = No;
  high = Yes;
  join = either;
  meet = both;
  opposite = turned;
  grade = λ r. cond (ltb r 128) No Yes;
  shown = shown_as;
}
