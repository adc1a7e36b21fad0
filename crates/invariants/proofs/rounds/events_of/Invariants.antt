use Rattle.event_graph.specs.Sets.{has}
use Rattle.invariants.proofs.RoundLemmas.{AreFront}
use Rattle.invariants.proofs.rounds.events_of.Given as goal

-- those of the first events
abbrev pub invariant-loop-event : goal.invariant-loop-event
invariant-loop-event l = AreFront (has l.rounds.ends) (has l.events) l.event
