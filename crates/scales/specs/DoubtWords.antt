-- The words by which a grade of Doubt is printed.
use Rattle.std.specs.Prelude.{ℕ, List, codes}
use Rattle.scales.specs.declared.doubt.Doubt.{Doubt}
use Rattle.scales.specs.declared.doubt.Doubt.TheVariants.{No, Unknown, Yes}

abbrev pub words_of : Doubt → List ℕ
words_of No = codes "no"
words_of Unknown = codes "unknown"
words_of Yes = codes "yes"
