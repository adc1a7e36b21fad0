use Rattle.std.proofs.Common.{◌≡◌, ℕ, ◌<◌, true}
use Rattle.event_graph.specs.Graphs.{starts}
use Rattle.event_graph.specs.Sets.{has, has_at}
use Rattle.event_graph.specs.Reached.{IsBegun}
use Rattle.event_graph.proofs.loops.begun_of.Given as goal

abbrev pub invariant-loop-start : goal.invariant-loop-start
invariant-loop-start l =
    ((e : ℕ) → has l.begun e ≡ true → IsBegun l.graph l.sets e)
    × ((e : ℕ) → starts l.graph e ≡ true → has l.begun e ≡ true)
    × ((x e : ℕ) → x < l.start → starts l.graph x ≡ true → has_at l.sets x e ≡ true → has l.begun e ≡ true)
