-- How the normal form of a form is made from those of the forms inside it.
use Rattle.std.specs.Prelude.{ℕ, Bool, cond, not}
use Rattle.tables.specs.declared.interval.Interval.{Interval}
use Rattle.tables.specs.declared.node.Node as node
use Rattle.tables.specs.declared.node.Node.TheVariants as written
use Rattle.tables.specs.declared.normal_node.NormalNode as normal
use Rattle.tables.specs.declared.normal_node.NormalNode.TheVariants as made
use Rattle.normalizing.specs.declared.shape.Leaf as leaf
use Rattle.normalizing.specs.declared.shape.Leaf.TheVariants as of_leaf
use Rattle.normalizing.specs.declared.shape.Step as step
use Rattle.normalizing.specs.declared.shape.Step.TheVariants as of_step
use Rattle.normalizing.specs.declared.shape.Joint as joint
use Rattle.normalizing.specs.declared.shape.Joint.TheVariants as of_joint
use Rattle.normalizing.specs.declared.shape.Shape as shape
use Rattle.normalizing.specs.declared.shape.Shape.TheVariants as of_shape

abbrev pub constant_of : Bool → leaf.Leaf
constant_of b = cond b of_leaf.Top of_leaf.Bottom

abbrev pub literal_of : Bool → ℕ → leaf.Leaf
literal_of b p = cond b (of_leaf.Fact p) (of_leaf.Opposed p)

abbrev pub step_of : Bool → Interval → step.Step
step_of b I = cond b (of_step.Next I) (of_step.DualNext I)

abbrev pub lattice_of : Bool → joint.Joint
lattice_of b = cond b of_joint.Both of_joint.Either

abbrev pub waiting_of : Bool → Interval → joint.Joint
waiting_of b I = cond b (of_joint.Until I) (of_joint.Release I)

-- at false, of the opposite: each operator becomes its dual, and keeps its interval
abbrev pub shape_of : Bool → node.Node → shape.Shape
shape_of b written.Top = of_shape.Leaf (constant_of b)
shape_of b written.Bottom = of_shape.Leaf (constant_of (not b))
shape_of b (written.Fact p) = of_shape.Leaf (literal_of b p)
shape_of b (written.Opposite i) = of_shape.Turned i
shape_of b (written.Both i j) = of_shape.Joined (lattice_of b) i b j
shape_of b (written.Either i j) = of_shape.Joined (lattice_of (not b)) i b j
shape_of b (written.Implies i j) = of_shape.Joined (lattice_of (not b)) i (not b) j
shape_of b (written.Next I i) = of_shape.Stepped (step_of b I) i
shape_of b (written.DualNext I i) = of_shape.Stepped (step_of (not b) I) i
shape_of b (written.Eventually I i) = of_shape.Waiting (waiting_of b I) (constant_of b) i
shape_of b (written.Always I i) = of_shape.Waiting (waiting_of (not b) I) (constant_of (not b)) i
shape_of b (written.Until I i j) = of_shape.Joined (waiting_of b I) i b j
shape_of b (written.Release I i j) = of_shape.Joined (waiting_of (not b) I) i b j

abbrev pub leaf_node : leaf.Leaf → normal.NormalNode
leaf_node of_leaf.Top = made.Top
leaf_node of_leaf.Bottom = made.Bottom
leaf_node (of_leaf.Fact p) = made.Fact p
leaf_node (of_leaf.Opposed p) = made.Opposed p

abbrev pub step_node : step.Step → ℕ → normal.NormalNode
step_node (of_step.Next I) i = made.Next I i
step_node (of_step.DualNext I) i = made.DualNext I i

abbrev pub joint_node : joint.Joint → ℕ → ℕ → normal.NormalNode
joint_node of_joint.Both i j = made.Both i j
joint_node of_joint.Either i j = made.Either i j
joint_node (of_joint.Until I) i j = made.Until I i j
joint_node (of_joint.Release I) i j = made.Release I i j
