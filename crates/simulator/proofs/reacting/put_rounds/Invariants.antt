use Rattle.std.proofs.Common.{◌≡◌}
use Rattle.simulator.proofs.RoundLemmas.{Turned}
use Rattle.simulator.proofs.reacting.put_rounds.Given as goal

abbrev pub invariant-loop-before : goal.invariant-loop-before
invariant-loop-before g l = record {
  rest : l.course ≡ record l.fn.course { world = l.course.world; present = l.course.present; last = l.course.last };
  turned : Turned l.fn.course.spec l.fn.course.world l.fn.course.present l.before l.course.world l.course.present
      (g.W.Writer.state l.fn.out) (g.W.Writer.text l.fn.out) (g.W.Writer.state l.out) (g.W.Writer.text l.out);
}
