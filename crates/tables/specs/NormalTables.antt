-- What a table of normal forms stands for.
use Rattle.std.specs.Prelude.{ℕ, List, [], ◌∷◌, ◌++◌, slice_index_or}
use Rattle.semantics.specs.Normals.{Normal}
use Rattle.tables.specs.Intervals.{interval_of}
use Rattle.tables.specs.declared.normal_node.NormalNode.{NormalNode}
use Rattle.tables.specs.declared.normal_node.NormalNode.TheVariants.{Top, Bottom, Fact, Opposed, Both, Either, Next, DualNext, Until, Release}

-- normal form i of those that ended before
abbrev pub normal_at : List Normal → ℕ → Normal
normal_at fs i = slice_index_or fs i Normal.top

-- the normal form of a node, over those that ended before it
abbrev pub normal_of : List Normal → NormalNode → Normal
normal_of fs Top = Normal.top
normal_of fs Bottom = Normal.bottom
normal_of fs (Fact p) = Normal.fact p
normal_of fs (Opposed p) = Normal.opposed p
normal_of fs (Both i j) = Normal.both (normal_at fs i) (normal_at fs j)
normal_of fs (Either i j) = Normal.either (normal_at fs i) (normal_at fs j)
normal_of fs (Next I i) = Normal.next (interval_of I) (normal_at fs i)
normal_of fs (DualNext I i) = Normal.dual_next (interval_of I) (normal_at fs i)
normal_of fs (Until I i j) = Normal.until (interval_of I) (normal_at fs i) (normal_at fs j)
normal_of fs (Release I i j) = Normal.release (interval_of I) (normal_at fs i) (normal_at fs j)

-- the normal forms fs, and behind them those of further nodes, in order
unfoldable pub normals_onto : List Normal → List NormalNode → List Normal
normals_onto fs [] = fs
normals_onto fs (n ∷ ns) = normals_onto (fs ++ (normal_of fs n ∷ [])) ns

-- the normal forms of a table
abbrev pub normals_from : List NormalNode → List Normal
normals_from ns = normals_onto [] ns
