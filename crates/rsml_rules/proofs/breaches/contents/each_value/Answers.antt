use Rattle.rsml_syntax.specs.rules.Declarations as declarations
use Rattle.rsml_rules.proofs.Noting.{noted_step}
use Rattle.rsml_rules.proofs.breaches.contents.each_value.Goals as goal

pub loop-value-preserved : goal.loop-value-preserved
loop-value-preserved c = noted_step (declarations.value_used c.args.tables.now c.args.scope.now) _ _ _ _ _ _ c.loop-value-test.true c.value-item.is c.value_used.ensures c.loop-value.invariant
