-- What a whole text is read as.
use Rattle.std.specs.Prelude.{◌≡◌, ℕ, ◌≤◌, List, length}
use Rattle.semantics.specs.Forms.{Form, forms}
use Rattle.grammar.specs.Grammar.{Reads}
use Rattle.reader.specs.declared.source.Source.{Source}
use Rattle.reader.specs.Tables.{written, held}

-- a text is neither empty nor over 1,024 bytes
pub record Fitting (t : List ℕ) : Type 0 where
  pub some : 1 ≤ length t
  pub short : length t ≤ 1024

-- why a text is no form: 1 for its length, and 2 where the grammar reads none
pub data Unread (t : List ℕ) : ℕ → Type 0 where
  of_length : (Fitting t → ⊥) → Unread t 1
  not_a_form : Fitting t → ((f : Form) → Reads t f → ⊥) → Unread t 2

-- the source S holds the form that t is
pub record Read (t : List ℕ) (S : Source) : Type 0 where
  pub f : Form
  pub fitting : Fitting t
  pub reads : Reads t f
  pub count : S.count ≡ forms f
  pub table : forms f ≤ 64 → held S ≡ written 0 f
