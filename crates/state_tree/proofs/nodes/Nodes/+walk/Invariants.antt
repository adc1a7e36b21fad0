use Rattle.std.proofs.Common.{◌≡◌, ◌++◌, ◌+◌, ◌*◌, flat_map, take}
use Rattle.rsml_syntax.specs.rules.Globals.{up_to}
use Rattle.rsml_meaning.specs.Instances.{child_states}
use Rattle.state_tree.specs.nodes.Numbers.{instance_states}
use Rattle.rsml_syntax.specs.grammar.WellFormed.{depth_of}
use Rattle.state_tree.proofs.Depths.{deepest}
use Rattle.state_tree.proofs.nodes.Nodes.+walk.Given as goal

abbrev pub invariant-with_array-loop-before : goal.invariant-with_array-loop-before
invariant-with_array-loop-before l = l.nodes ≡ l.fn.self ++ instance_states l.globals l.path l.child (up_to l.before)

abbrev pub invariant-with_children-loop-child : goal.invariant-with_children-loop-child
invariant-with_children-loop-child l = l.nodes ≡ l.fn.self ++ flat_map (child_states l.globals l.path) (take l.child-index l.children)

abbrev pub decreases-with : goal.decreases-with
decreases-with l = 5 * depth_of l.body.now

abbrev pub decreases-with_instance : goal.decreases-with_instance
decreases-with_instance l = 5 * depth_of l.child.now.body + 1

abbrev pub decreases-with_array : goal.decreases-with_array
decreases-with_array l = 5 * depth_of l.child.now.body + 2

abbrev pub decreases-with_child : goal.decreases-with_child
decreases-with_child l = 5 * depth_of l.child.now.body + 3

abbrev pub decreases-with_children : goal.decreases-with_children
decreases-with_children l = 5 * deepest l.children.now + 4
