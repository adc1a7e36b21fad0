use Rattle.rsml_syntax.specs.rules.Uses as uses
use Rattle.rsml_rules.proofs.Noting.{noted_step}
use Rattle.rsml_rules.proofs.breaches.uses.each_mentioned.Goals as goal

pub loop-mention-preserved : goal.loop-mention-preserved
loop-mention-preserved c = noted_step (uses.mentioned c.args.tables.now c.args.scope.now c.args.want) _ _ _ _ _ _ c.loop-mention-test.true c.mention-item.is c.mentioned.ensures c.loop-mention.invariant
