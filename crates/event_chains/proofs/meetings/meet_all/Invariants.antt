use Rattle.std.proofs.Common.{◌≡◌, ℕ, ◌||◌, drop}
use Rattle.event_graph.specs.Graphs.{meets}
use Rattle.event_chains.specs.Reactions.{meet_by}
use Rattle.event_chains.proofs.meetings.meet_all.Given as goal

abbrev pub invariant-loop-reaction : goal.invariant-loop-reaction
invariant-loop-reaction l =
    ((a b : ℕ) → (meets l.graph a b || meet_by l.sets (drop l.reaction-index l.reactions) a b) ≡ (meets l.fn.graph a b || meet_by l.sets l.reactions a b))
    × (l.graph.count ≡ l.fn.graph.count)
    × (l.graph.ways ≡ l.fn.graph.ways)
    × (l.graph.begun ≡ l.fn.graph.begun)
