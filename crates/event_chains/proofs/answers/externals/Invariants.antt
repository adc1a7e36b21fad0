use Rattle.event_chains.proofs.FoundLemmas.{AreShown}
use Rattle.event_chains.proofs.answers.externals.Given as goal

abbrev pub invariant-loop-event : goal.invariant-loop-event
invariant-loop-event l = AreShown l.checked l.event l.rows.items
