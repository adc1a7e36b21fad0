use Rattle.std.proofs.Common.{◌≡◌, ℕ, ◌||◌, drop, length}
use Rattle.event_graph.specs.Sets.{has_at}
use Rattle.event_chains.specs.Reactions.{reacts}
use Rattle.event_chains.proofs.meetings.sets_of.Given as goal

abbrev pub invariant-loop-reaction : goal.invariant-loop-reaction
invariant-loop-reaction l =
    ((k b : ℕ) → (has_at l.sets.items k b || reacts (drop l.reaction-index l.reactions) k b) ≡ reacts l.reactions k b)
    × (length l.sets.items ≡ l.owners)
