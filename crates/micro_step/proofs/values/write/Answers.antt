use Rattle.micro_step.specs.Numbers.{ValueFits}
use Rattle.micro_step.proofs.LoopLemmas.{value_at}
use Rattle.micro_step.proofs.values.write.Goals as goal

pub value_number-requires-clause-value : goal.value_number-requires-clause-value
value_number-requires-clause-value c = value_at (ValueFits c.args.machine.now) c.args.values.now c.loop-place.place c.index-values-place.result c.requires.values c.loop-place-test.true c.index-values-place.is
