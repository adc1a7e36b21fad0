use Rattle.bdd_core.specs.Children.{IsAny, IsRest}
use Rattle.bdd_core.proofs.ChildLemmas.{IsAskedChild}
use Rattle.bdd_core.proofs.arena.Arena.descend_without.Given as goal

-- what waits asks this
abbrev pub invariant-down : goal.invariant-down
invariant-down l = IsAskedChild IsAny (IsRest l.levels) l.self l.fn.f l.fn.waiting.items l.asked l.waiting.items

-- children stand before their nodes
abbrev pub decreases-down : goal.decreases-down
decreases-down l = l.asked
