use Rattle.rsml_syntax.specs.rules.Uses as uses
use Rattle.rsml_syntax.specs.declared.syntax.Term.{Term}
use Rattle.rsml_rules.proofs.Noting.{noted_step}
use Rattle.rsml_rules.proofs.breaches.uses.sum_used.Goals as goal

pub loop-term-preserved : goal.loop-term-preserved
loop-term-preserved c = noted_step (λ (t : Term). uses.operand_used c.args.tables.now c.args.scope.now t.operand) _ _ _ _ _ _ c.loop-term-test.true c.term-item.is c.operand_used.ensures c.loop-term.invariant
