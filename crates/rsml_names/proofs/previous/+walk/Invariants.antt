use Rattle.std.proofs.Common.{◌≡◌, take, flat_map}
use Rattle.rsml_names.specs.PreviousNames.{gathered}
use Rattle.rsml_names.specs.PreviousNames.{sums_of_state}
use Rattle.rsml_names.proofs.previous.+walk.Given as goal

abbrev pub invariant-with_children-loop-child : goal.invariant-with_children-loop-child
invariant-with_children-loop-child l = l.names ≡ gathered l.fn.names (flat_map (λ c. sums_of_state c.body) (take l.child-index l.children))
