use Rattle.macros.specs.Known.{Knows}
use Rattle.micro_step.proofs.learning.learn_all.Given as goal

abbrev pub invariant-loop-one : goal.invariant-loop-one
invariant-loop-one l = Knows l.machine.base l.world l.memo
