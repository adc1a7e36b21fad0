use Rattle.std.proofs.Common.{◌+◌}
use Rattle.bdd_core.proofs.WaitingLemmas.{IsAsked}
use Rattle.bdd_core.proofs.arena.Arena.descend.Given as goal

-- what waits asks this
abbrev pub invariant-down : goal.invariant-down
invariant-down l = IsAsked l.self (l.fn.f, l.fn.g, l.fn.h) l.fn.waiting.items l.asked l.waiting.items

-- children stand before their nodes
abbrev pub decreases-down : goal.decreases-down
decreases-down l = l.asked.0 + l.asked.1 + l.asked.2
