use Rattle.std.proofs.Common.{Err, ap, ◌∙◌}
use Rattle.judging.proofs.JudgementLemmas.{broken, read_kept}
use Rattle.judging.proofs.keeping.kept_specification.Goals as goal

pub returns-in-Ok : goal.returns-in-Ok
returns-in-Ok c = λ text t. read_kept text _ _ c.in-Ok.ensures.ok c.in-Ok.ensures.kept t

pub returns-in_ok-rule_fault-in-Err : goal.returns-in_ok-rule_fault-in-Err
returns-in_ok-rule_fault-in-Err c = λ text t. (
  c.args.spec,
  t,
  broken _ _ _ (λ number name e. c.check_rules.ensures.rule number name (c.in-Err.is ∙ ap Err e))
      (λ number count e. c.check_rules.ensures.limit number count (c.in-Err.is ∙ ap Err e)) c.in_ok-rule_fault-in-Err.ensures,
)
