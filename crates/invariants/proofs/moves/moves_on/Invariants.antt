use Rattle.std.proofs.Common.{◌≡◌, take}
use Rattle.event_graph.specs.Sets.{has}
use Rattle.micro_step.specs.Places.{places_where}
use Rattle.invariants.proofs.moves.moves_on.Given as goal

-- those of the first transitions
abbrev pub invariant-loop-number : goal.invariant-loop-number
invariant-loop-number l = l.moves.items ≡ places_where (λ x. has l.events x.event) 0 (take l.number l.machine.transitions)
