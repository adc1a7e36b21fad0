use Rattle.std.proofs.Common.{Err, ap, ◌∙◌, subst}
use Rattle.rsml_syntax.specs.declared.syntax.Spec.{Spec}
use Rattle.rsml_syntax.specs.limits.Limits.{Keeps}
use Rattle.judging.specs.Judgements.{IsBroken}
use Rattle.judging.proofs.JudgementLemmas.{broken}
use Rattle.proving.proofs.keeping.broken_fault.Goals as goal

pub returns-in-Ok : goal.returns-in-Ok
returns-in-Ok c = subst (λ (s : Spec). Keeps s) c.in_ok-whole.ensures c.in-Ok.ensures.kept

pub returns : goal.returns
returns c =
    subst (λ (s : Spec). IsBroken s c.in_ok-rule_fault-in-Err.field-0.items) c.in_ok-whole.ensures
    (broken c.in_ok-whole.whole c.in-Err.error c.in_ok-rule_fault-in-Err.field-0.items (λ number name e. c.check_rules.ensures.rule number name (c.in-Err.is ∙ ap Err e))
    (λ number count e. c.check_rules.ensures.limit number count (c.in-Err.is ∙ ap Err e)) c.in_ok-rule_fault-in-Err.ensures)
