use Rattle.rsml_syntax.specs.rules.Uses as uses
use Rattle.rsml_syntax.specs.declared.syntax.Row.{Row}
use Rattle.rsml_rules.proofs.Noting.{noted_step}
use Rattle.rsml_rules.proofs.breaches.phrases.rows_used.Goals as goal

pub loop-row-preserved : goal.loop-row-preserved
loop-row-preserved c = noted_step (λ (row : Row). uses.phrase_used c.args.setting.now.tables c.args.scope.now row.phrase) _ _ _ _ _ _ c.loop-row-test.true c.row-item.is c.phrase_used.ensures c.loop-row.invariant
