use Rattle.std.proofs.Common.{◌≡◌, drop}
use Rattle.std.specs.Cmp.Lexicographic.{pointwise}
use Rattle.spec_frames.specs.helpers.Sameness.{same_child}
use Rattle.spec_frames.proofs.states.+walk.Given as goal

abbrev pub invariant-same_children-loop-child : goal.invariant-same_children-loop-child
invariant-same_children-loop-child l = pointwise same_child (drop l.child-index l.one) l.others ≡ pointwise same_child l.one l.two
