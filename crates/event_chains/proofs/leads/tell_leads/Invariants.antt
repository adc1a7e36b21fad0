use Rattle.std.proofs.Common.{◌≡◌, ℕ, ◌||◌, drop}
use Rattle.event_graph.specs.Graphs.{leads}
use Rattle.event_chains.specs.Reactions.{leads_by}
use Rattle.event_chains.proofs.leads.tell_leads.Given as goal

abbrev pub invariant-loop-transition : goal.invariant-loop-transition
invariant-loop-transition l =
    ((a b : ℕ) → (leads l.graph a b || leads_by (drop l.transition-index l.transitions) a b) ≡ (leads l.fn.graph a b || leads_by l.transitions a b))
    × (l.graph.count ≡ l.fn.graph.count)
    × (l.graph.begun ≡ l.fn.graph.begun)
    × (l.graph.pairs ≡ l.fn.graph.pairs)
