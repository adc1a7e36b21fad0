use Rattle.std.proofs.Common.{◌≡◌, ◌+◌}
use Rattle.run_counts.specs.Ready.{IsReady}
use Rattle.run_counts.proofs.TurnLemmas.{Turned}
use Rattle.run_counts.proofs.steps.count_step.Given as goal

abbrev pub invariant-loop-turn : goal.invariant-loop-turn
invariant-loop-turn l = record {
  ready : IsReady l.machine l.progress;
  rounds : l.progress.counts.rounds ≡ l.fn.progress.counts.rounds + l._turn;
  turned : Turned l.machine l.fn.progress.world l.fn.events l._turn l.progress.world l.events l.fn.progress.counts l.progress.counts;
}
