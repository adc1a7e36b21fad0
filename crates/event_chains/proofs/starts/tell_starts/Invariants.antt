use Rattle.std.proofs.Common.{◌≡◌, ℕ, ◌||◌, drop}
use Rattle.std.specs.List.{list_any}
use Rattle.rsml_meaning.specs.Words.{Instance, same_instance}
use Rattle.rsml_meaning.specs.Interfaces.{receives}
use Rattle.rsml_meaning.specs.Chains.{is_external}
use Rattle.ground_members.specs.Members.{IsEvent}
use Rattle.event_graph.specs.Graphs.{starts}
use Rattle.event_chains.proofs.starts.tell_starts.Given as goal

abbrev pub invariant-loop-receive : goal.invariant-loop-receive
invariant-loop-receive l =
    ((a : ℕ) (e : Instance) → IsEvent l.interfaces e a
    → (starts l.graph a || list_any (λ r. same_instance r.raised e) (drop l.receive (receives l.interfaces))) ≡ (starts l.fn.graph a || is_external l.interfaces e))
    × (l.graph.count ≡ l.fn.graph.count)
    × (l.graph.ways ≡ l.fn.graph.ways)
    × (l.graph.pairs ≡ l.fn.graph.pairs)
