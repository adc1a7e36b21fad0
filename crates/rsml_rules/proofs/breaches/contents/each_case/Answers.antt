use Rattle.rsml_syntax.specs.rules.Declarations as declarations
use Rattle.rsml_rules.proofs.Noting.{noted_step}
use Rattle.rsml_rules.proofs.breaches.contents.each_case.Goals as goal

pub loop-case-preserved : goal.loop-case-preserved
loop-case-preserved c = noted_step (declarations.case_used c.args.setting.now.tables c.args.scope.now) _ _ _ _ _ _ c.loop-case-test.true c.case-item.is c.case_used.ensures c.loop-case.invariant
