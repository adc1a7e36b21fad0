use Rattle.std.proofs.Common.{◌≡◌, ℕ, ◌<◌, length}
use Rattle.event_graph.specs.Sets.{has_at}
use Rattle.event_chains.specs.Reactions.{reacts_on_line}
use Rattle.event_chains.proofs.meetings.lines.Given as goal

abbrev pub invariant-loop-node : goal.invariant-loop-node
invariant-loop-node l =
    (length l.lines.items ≡ l.node)
    × ((k b : ℕ) → k < l.node → has_at l.lines.items k b ≡ reacts_on_line l.tree l.reactions k b)
