use Rattle.std.proofs.Common.{ℤ, List, ap, ◌∙◌}
use Rattle.linear_conflicts.specs.Steps.{combination}
use Rattle.linear_conflicts.proofs.CombinationLemmas.{combination-zeros}
use Rattle.linear_conflicts.proofs.combination.is_contradiction.Goals as goal

pub contradicts-requires : goal.contradicts-requires
contradicts-requires c v =
    ap (λ (fs : List ℤ). combination v fs 0) (c.as_mut_slice.ensures.value ∙ c.in_ok-factors.ensures.items_if_clones_equal (λ y e. e)) ∙ combination-zeros v _ 0
