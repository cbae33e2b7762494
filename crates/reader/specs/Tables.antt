-- The table that a form is written into, entry by entry as its parts end.
use Rattle.std.specs.Prelude.{◌≡◌, ℕ, ◌+◌, ◌-◌, ◌<◌, ◌≤◌, List, [], ◌∷◌, ◌++◌, length}
use Rattle.semantics.specs.Forms.{Form, forms}
use Rattle.tables.specs.declared.interval.Interval.{Interval}
use Rattle.tables.specs.declared.node.Node.{Node}
use Rattle.tables.specs.declared.node.Node.TheVariants.{Top, Bottom, Fact, Opposite, Both, Either, Implies, Next, DualNext, Eventually, Always, Until, Release}
use Rattle.grammar.specs.declared.operator.Timing as timing
use Rattle.grammar.specs.declared.operator.Timing.TheVariants as of_timing
use Rattle.grammar.specs.declared.operator.Joining as joining
use Rattle.grammar.specs.declared.operator.Joining.TheVariants as of_joining
use Rattle.grammar.specs.Grammar.{Plain, FormAt, PairAt}
use Rattle.grammar.specs.Runs.{kept}
use Rattle.reader.specs.declared.source.Source.{Source}

-- the entries of a form that are written after b others; the numbers of its intervals are held as read
unfoldable pub written : ℕ → Form → List Node
written b Form.top = Top ∷ []
written b Form.bottom = Bottom ∷ []
written b (Form.fact p) = Fact p ∷ []
written b (Form.opposite f) = written b f ++ (Opposite (b + forms f - 1) ∷ [])
written b (Form.both f g) =
    written b f ++ (written (b + forms f) g ++ (Both (b + forms f - 1) (b + forms f + forms g - 1) ∷ []))
written b (Form.either f g) =
    written b f ++ (written (b + forms f) g ++ (Either (b + forms f - 1) (b + forms f + forms g - 1) ∷ []))
written b (Form.implies f g) =
    written b f ++ (written (b + forms f) g ++ (Implies (b + forms f - 1) (b + forms f + forms g - 1) ∷ []))
written b (Form.next I f) = written b f ++ (Next (kept I) (b + forms f - 1) ∷ [])
written b (Form.dual_next I f) = written b f ++ (DualNext (kept I) (b + forms f - 1) ∷ [])
written b (Form.eventually I f) = written b f ++ (Eventually (kept I) (b + forms f - 1) ∷ [])
written b (Form.always I f) = written b f ++ (Always (kept I) (b + forms f - 1) ∷ [])
written b (Form.until I f g) =
    written b f ++ (written (b + forms f) g ++ (Until (kept I) (b + forms f - 1) (b + forms f + forms g - 1) ∷ []))
written b (Form.release I f g) =
    written b f ++ (written (b + forms f) g ++ (Release (kept I) (b + forms f - 1) (b + forms f + forms g - 1) ∷ []))

-- the node of a form with bounds
abbrev pub timed_node : timing.Timing → Interval → ℕ → Node
timed_node of_timing.Next I i = Next I i
timed_node of_timing.DualNext I i = DualNext I i
timed_node of_timing.Eventually I i = Eventually I i
timed_node of_timing.Always I i = Always I i

-- the node of two joined forms
abbrev pub joined_node : joining.Joining → Interval → ℕ → ℕ → Node
joined_node of_joining.Both I i j = Both i j
joined_node of_joining.Either I i j = Either i j
joined_node of_joining.Implies I i j = Implies i j
joined_node of_joining.Until I i j = Until I i j
joined_node of_joining.Release I i j = Release I i j

-- the entries that a source holds
abbrev pub held : Source → List Node
held S = S.nodes

-- S' is S with the node n counted, and kept where S has room
pub record Added (S : Source) (n : Node) (S' : Source) : Type 0 where
  pub count : S'.count ≡ S.count + 1
  pub adds : length (held S) ≡ S.count → S'.count ≤ 64 → held S' ≡ held S ++ (n ∷ [])

-- S' is S with the forms of f counted, and written where S has room
pub record Grown (S : Source) (f : Form) (S' : Source) : Type 0 where
  pub count : S'.count ≡ S.count + forms f
  pub adds : length (held S) ≡ S.count → S'.count ≤ 64 → held S' ≡ held S ++ written S.count f

pub record FormRead (t : List ℕ) (S : Source) (r : List ℕ) (S' : Source) : Type 0 where
  pub f : Form
  pub reads : FormAt t f r
  pub grown : Grown S f S'
  pub fits : S'.count + length r ≤ S.count + length t
  pub shorter : length r < length t

pub record PairRead (t : List ℕ) (S : Source) (r : List ℕ) (S' : Source) : Type 0 where
  pub f : Form
  pub reads : PairAt t f r
  pub grown : Grown S f S'
  pub fits : S'.count + length r ≤ S.count + length t
  pub shorter : length r < length t

-- a node of one symbol
pub record Leaf (c : ℕ) (n : Node) : Type 0 where
  pub f : Form
  pub reads : Plain c f
  pub is : (b : ℕ) → written b f ≡ n ∷ []
