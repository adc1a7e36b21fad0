use Rattle.state_tree.proofs.Kin.{AreSoFar}
use Rattle.state_tree.proofs.families.families.Given as goal

abbrev pub invariant-loop-node : goal.invariant-loop-node
invariant-loop-node l = AreSoFar l.spec l.nodes l.node l.families.items
