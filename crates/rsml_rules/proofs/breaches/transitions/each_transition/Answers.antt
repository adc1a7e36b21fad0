use Rattle.rsml_syntax.specs.rules.States as states
use Rattle.rsml_rules.proofs.Noting.{noted_step}
use Rattle.rsml_rules.proofs.breaches.transitions.each_transition.Goals as goal

pub loop-transition-preserved : goal.loop-transition-preserved
loop-transition-preserved c = noted_step (states.transition c.args.setting.now.tables c.args.scope.now c.args.around.now.body.now) _ _ _ _ _ _ c.loop-transition-test.true c.transition-item.is c.in_ok-transition_used.ensures c.loop-transition.invariant
