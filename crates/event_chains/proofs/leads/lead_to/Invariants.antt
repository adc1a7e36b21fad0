use Rattle.std.proofs.Common.{◌≡◌, ℕ, ◌==◌, ◌&&◌, ◌||◌, drop}
use Rattle.std.specs.List.{list_any}
use Rattle.event_graph.specs.Graphs.{leads}
use Rattle.event_chains.proofs.leads.lead_to.Given as goal

abbrev pub invariant-loop-to : goal.invariant-loop-to
invariant-loop-to l =
    ((a b : ℕ) → (leads l.graph a b || (l.from == a && list_any (λ r. r == b) (drop l.to-index l.raised))) ≡ (leads l.fn.graph a b || (l.from == a && list_any (λ r. r == b) l.raised)))
    × (l.graph.count ≡ l.fn.graph.count)
    × (l.graph.begun ≡ l.fn.graph.begun)
    × (l.graph.pairs ≡ l.fn.graph.pairs)
