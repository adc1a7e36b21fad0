use Rattle.std.proofs.Common.{◌≡◌, ℕ, ◌<◌, true, false, None, length}
use Rattle.event_graph.specs.Graphs.{starts}
use Rattle.event_graph.specs.Clashes.{IsClashAnswer, clash_at}
use Rattle.event_graph.proofs.clashes.firsts.Given as goal

abbrev pub invariant-loop-event : goal.invariant-loop-event
invariant-loop-event l =
    (length l.firsts.items ≡ l.event)
    × ((x : ℕ) → x < l.event → starts l.graph x ≡ true → IsClashAnswer l.graph x (clash_at l.firsts.items x))
    × ((x : ℕ) → starts l.graph x ≡ false → clash_at l.firsts.items x ≡ None)
