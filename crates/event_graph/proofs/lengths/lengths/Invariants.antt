use Rattle.event_graph.specs.Ended.{AreEnded}
use Rattle.event_graph.proofs.lengths.lengths.Given as goal

abbrev pub invariant-loop-round : goal.invariant-loop-round
invariant-loop-round l = AreEnded l.graph l.round l.ended l.lengths.items
