use Rattle.rsml_names.proofs.PreviousGathering.{gathered_turn}
use Rattle.rsml_names.proofs.previous.with_declarations.Goals as goal

pub loop-decl-preserved : goal.loop-decl-preserved
loop-decl-preserved c = gathered_turn _ _ _ _ _ _ _ c.loop-decl-test.true c.decl-item.is c.loop-decl.invariant c.in_ok-names.ensures
