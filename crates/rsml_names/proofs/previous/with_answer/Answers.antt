use Rattle.rsml_names.proofs.PreviousGathering.{gathered_turn}
use Rattle.rsml_names.proofs.previous.with_answer.Goals as goal

pub loop-value-preserved : goal.loop-value-preserved
loop-value-preserved c = gathered_turn _ _ _ _ _ _ _ c.loop-value-test.true c.value-item.is c.loop-value.invariant c.in_ok-names.ensures
