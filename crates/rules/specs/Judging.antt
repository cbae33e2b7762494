-- The limits of a rule, in the order of their numbers.
use Rattle.std.specs.Prelude.{◌≡◌, ℕ, ◌-◌, ◌≤◌, true, cond, List, length, nat_lt}
use Rattle.semantics.specs.Forms.{Form, forms}
use Rattle.semantics.specs.Normals.{normal, normal_forms}
use Rattle.tables.specs.Sources.{form_at, forms_from}
use Rattle.tables.specs.declared.node.Node.{Node}
use Rattle.reader.specs.declared.source.Source.{Source}
use Rattle.reader.specs.Tables.{written, held}
use Rattle.limits.specs.Limits.{depth, every, small, proper}

-- the form that a table of forms stands for: the one that ended last
abbrev pub form_in : List Node → Form
form_in ns = form_at (forms_from ns) (length ns - 1)

-- the first limit that a form breaks, of those before the last; n where it breaks none
abbrev pub judged_or : ℕ → Form → ℕ
judged_or n f =
    cond (nat_lt 64 (forms f)) 3 (
    cond (nat_lt 32 (depth f)) 4 (
    cond (every small f) (
    cond (every proper f) n 6
    ) 5
    )
    )

abbrev pub judged_of : Form → ℕ
judged_of f = judged_or 0 f

-- the first refusal that applies to a form that is read: 3 over 64 forms, 4 depth over 32, 5 a number above 1,000,000,000,
-- 6 an interval whose lower end is above its upper, or equal to it and not 0, 7 over 64 normal forms; 0 where none applies
abbrev pub refusal_of : Form → ℕ
refusal_of f = judged_or (cond (nat_lt 64 (normal_forms (normal true f))) 7 0) f

-- the source S holds f, or as much of it as there is room for
pub record Holds (S : Source) (f : Form) : Type 0 where
  pub count : S.count ≡ forms f
  pub table : forms f ≤ 64 → held S ≡ written 0 f

pub record Sourced (S : Source) : Type 0 where
  pub f : Form
  pub holds : Holds S f
