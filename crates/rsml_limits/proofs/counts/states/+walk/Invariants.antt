use Rattle.std.proofs.Common.{◌≡◌, take}
use Rattle.rsml_syntax.specs.limits.Limits.{adds, shown}
use Rattle.std.specs.Option.{option_copied}
use Rattle.rsml_limits.specs.counts.Counting.{child_count}
use Rattle.rsml_limits.proofs.counts.states.+walk.Given as goal

abbrev pub invariant-all_children-loop-child : goal.invariant-all_children-loop-child
invariant-all_children-loop-child l = l.count ≡ shown (adds (child_count l.counted l.names (option_copied l.array)) (take l.child-index l.children))
