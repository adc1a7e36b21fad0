use Rattle.micro_step.proofs.CandidateLemmas.{AreFirst}
use Rattle.micro_step.proofs.prepared.on_events.Given as goal

abbrev pub invariant-loop-event : goal.invariant-loop-event
invariant-loop-event l = AreFirst l.machine l.event l.prepared.items
