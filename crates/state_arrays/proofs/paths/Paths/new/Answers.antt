use Rattle.state_arrays.proofs.TreeLemmas.{tree_by}
use Rattle.state_arrays.proofs.paths.Paths.new.Goals as goal

pub numbers_of-requires : goal.numbers_of-requires
numbers_of-requires c = tree_by _ _ c.requires c.in_ok-nodes.ensures

pub invariant_of-result : goal.invariant_of-result
invariant_of-result c = record { tree = tree_by _ _ c.requires c.in_ok-nodes.ensures; numbers = c.in_ok-numbers.ensures }
