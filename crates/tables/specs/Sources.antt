-- What a table of forms stands for: each entry a tree over those that the earlier entries stand for.
use Rattle.std.specs.Prelude.{ℕ, List, [], ◌∷◌, ◌++◌, slice_index_or}
use Rattle.semantics.specs.Forms.{Form}
use Rattle.tables.specs.Intervals.{interval_of}
use Rattle.tables.specs.declared.node.Node.{Node}
use Rattle.tables.specs.declared.node.Node.TheVariants.{Top, Bottom, Fact, Opposite, Both, Either, Implies, Next, DualNext, Eventually, Always, Until, Release}

-- form i of those that ended before
abbrev pub form_at : List Form → ℕ → Form
form_at fs i = slice_index_or fs i Form.top

-- the form of a node, over the forms that ended before it
abbrev pub form_of : List Form → Node → Form
form_of fs Top = Form.top
form_of fs Bottom = Form.bottom
form_of fs (Fact p) = Form.fact p
form_of fs (Opposite i) = Form.opposite (form_at fs i)
form_of fs (Both i j) = Form.both (form_at fs i) (form_at fs j)
form_of fs (Either i j) = Form.either (form_at fs i) (form_at fs j)
form_of fs (Implies i j) = Form.implies (form_at fs i) (form_at fs j)
form_of fs (Next I i) = Form.next (interval_of I) (form_at fs i)
form_of fs (DualNext I i) = Form.dual_next (interval_of I) (form_at fs i)
form_of fs (Eventually I i) = Form.eventually (interval_of I) (form_at fs i)
form_of fs (Always I i) = Form.always (interval_of I) (form_at fs i)
form_of fs (Until I i j) = Form.until (interval_of I) (form_at fs i) (form_at fs j)
form_of fs (Release I i j) = Form.release (interval_of I) (form_at fs i) (form_at fs j)

-- the forms fs, and behind them those of further nodes, in order
unfoldable pub forms_onto : List Form → List Node → List Form
forms_onto fs [] = fs
forms_onto fs (n ∷ ns) = forms_onto (fs ++ (form_of fs n ∷ [])) ns

-- the forms of a table
abbrev pub forms_from : List Node → List Form
forms_from ns = forms_onto [] ns
