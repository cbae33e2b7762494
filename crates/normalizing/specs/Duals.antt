-- The dual of each part of a normal form.
use Rattle.normalizing.specs.declared.shape.Leaf.{Leaf}
use Rattle.normalizing.specs.declared.shape.Leaf.TheVariants.{Top, Bottom, Fact, Opposed}
use Rattle.normalizing.specs.declared.shape.Step.{Step}
use Rattle.normalizing.specs.declared.shape.Step.TheVariants.{Next, DualNext}
use Rattle.normalizing.specs.declared.shape.Joint.{Joint}
use Rattle.normalizing.specs.declared.shape.Joint.TheVariants.{Both, Either, Until, Release}

abbrev pub leaf_dual : Leaf → Leaf
leaf_dual Top = Bottom
leaf_dual Bottom = Top
leaf_dual (Fact p) = Opposed p
leaf_dual (Opposed p) = Fact p

abbrev pub step_dual : Step → Step
step_dual (Next I) = DualNext I
step_dual (DualNext I) = Next I

abbrev pub joint_dual : Joint → Joint
joint_dual Both = Either
joint_dual Either = Both
joint_dual (Until I) = Release I
joint_dual (Release I) = Until I
