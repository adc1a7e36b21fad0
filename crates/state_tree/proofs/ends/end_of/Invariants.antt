use Rattle.state_tree.proofs.Spans.{InSoFar}
use Rattle.state_tree.proofs.ends.end_of.Given as goal

abbrev pub invariant-loop-end : goal.invariant-loop-end
invariant-loop-end l = InSoFar l.nodes l.node l.end
