use Rattle.std.proofs.Common.{◌≡◌, ℕ, length, Some, slice_get}
use Rattle.state_tree.specs.nodes.Numbers.{paths}
use Rattle.state_tree.specs.Tables.{IsEnd}
use Rattle.state_tree.proofs.ends.ends.Given as goal

abbrev pub invariant-loop-node : goal.invariant-loop-node
invariant-loop-node l = record {
  many : length l.ends.items ≡ l.node;
  each : (node end : ℕ) → slice_get l.ends.items node ≡ Some end → IsEnd (paths l.nodes) node end;
}
