use Rattle.std.proofs.Common.{◌≡◌, ℕ, ◌<◌, true}
use Rattle.rsml_meaning.specs.Words.{on_one_line}
use Rattle.state_tree.specs.Numbers.{path_of}
use Rattle.event_graph.specs.Sets.{has, has_at}
use Rattle.event_chains.proofs.meetings.line.Given as goal

abbrev pub invariant-loop-other : goal.invariant-loop-other
invariant-loop-other l =
    ((b : ℕ) → has l.events b ≡ true → (k : ℕ) × (k < l.other) × (on_one_line (path_of l.tree l.node) (path_of l.tree k) ≡ true) × (has_at l.sets k b ≡ true))
    × ((k b : ℕ) → k < l.other → on_one_line (path_of l.tree l.node) (path_of l.tree k) ≡ true → has_at l.sets k b ≡ true → has l.events b ≡ true)
