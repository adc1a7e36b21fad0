use Rattle.std.proofs.Common.{take}
use Rattle.state_arrays.specs.Children.{AreNumbers}
use Rattle.state_arrays.proofs.paths.numbers_of.Given as goal

abbrev pub invariant-loop-node : goal.invariant-loop-node
invariant-loop-node l = AreNumbers l.nodes (take l.node l.nodes) l.numbers
