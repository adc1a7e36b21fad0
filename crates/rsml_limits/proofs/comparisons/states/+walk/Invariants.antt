use Rattle.std.proofs.Common.{◌≡◌, drop}
use Rattle.std.specs.Prelude.{flat_map}
use Rattle.std.specs.Option.{option_copied}
use Rattle.rsml_limits.specs.comparisons.Searched.{searched, child_comparisons}
use Rattle.rsml_limits.proofs.comparisons.states.+walk.Given as goal

abbrev pub invariant-each_child-loop-child : goal.invariant-each_child-loop-child
invariant-each_child-loop-child l =
    searched l.search (λ g. flat_map (child_comparisons g (option_copied l.array)) (drop l.child-index l.children))
    ≡ searched l.fn.search (λ g. flat_map (child_comparisons g (option_copied l.array)) l.children)
