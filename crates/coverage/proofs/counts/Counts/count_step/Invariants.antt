use Rattle.std.proofs.Common.{◌≡◌, ◌≤◌}
use Rattle.coverage.proofs.StepLemmas.{Turned}
use Rattle.coverage.proofs.counts.Counts.count_step.Given as goal

abbrev pub invariant-loop-turn : goal.invariant-loop-turn
invariant-loop-turn l = record {
  rest : l.simulator ≡ record l.fn.simulator { world = l.simulator.world; present = l.simulator.present; last = l.simulator.last };
  few : l._turn ≤ 1024;
  turned : Turned l.fn.simulator.spec l.fn.simulator.world l.fn.simulator.present l._turn l.simulator.world l.simulator.present l.fn.self l.self;
}
