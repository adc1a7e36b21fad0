use Rattle.std.proofs.Common.{◌≡◌, ◌||◌, ℕ, take}
use Rattle.micro_step.specs.Rising.{among}
use Rattle.event_graph.specs.Sets.{has}
use Rattle.micro_step.proofs.raising.raise_by.Given as goal

abbrev pub invariant-loop-event : goal.invariant-loop-event
invariant-loop-event l = (q : ℕ) → has l.raised q ≡ (has l.fn.raised q || among (take l.event-index l.raises) q)
