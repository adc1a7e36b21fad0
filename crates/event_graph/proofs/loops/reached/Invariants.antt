use Rattle.event_graph.specs.Reached.{AreReachedThrough}
use Rattle.event_graph.proofs.loops.reached.Given as goal

abbrev pub invariant-loop-middle : goal.invariant-loop-middle
invariant-loop-middle l = AreReachedThrough l.graph l.middle l.sets.items
