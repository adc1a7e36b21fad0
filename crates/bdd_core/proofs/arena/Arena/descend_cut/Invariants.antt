use Rattle.bdd_core.specs.Children.{IsApart, IsCutAt}
use Rattle.bdd_core.proofs.ChildLemmas.{IsAskedChild}
use Rattle.bdd_core.proofs.arena.Arena.descend_cut.Given as goal

-- what waits asks this
abbrev pub invariant-down : goal.invariant-down
invariant-down l = IsAskedChild (IsApart l.level) (IsCutAt l.level l.value) l.self l.fn.f l.fn.waiting.items l.asked l.waiting.items

-- children stand before their nodes
abbrev pub decreases-down : goal.decreases-down
decreases-down l = l.asked
