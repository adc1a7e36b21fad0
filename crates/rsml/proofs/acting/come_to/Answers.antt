use Rattle.std.proofs.Common.{Err, ap, ◌∙◌}
use Rattle.rsml.proofs.ActionLemmas.{action_came, action_unread}
use Rattle.rsml.proofs.acting.come_to.Goals as goal

pub returns-in-Ok-clause-came : goal.returns-in-Ok-clause-came
returns-in-Ok-clause-came g c =
    action_came c.args.action _ c.in-Ok.text.items c.as_slice.result.now c.outcome_of.result c.in-Ok.ensures.whole c.as_slice.ensures.value c.outcome_of.ensures

pub returns-in-Err-clause-came : goal.returns-in-Err-clause-came
returns-in-Err-clause-came g c =
    action_unread c.args.action _ c.in-Err.error c.unread.result c.unread.ensures (λ e. c.read_all.ensures.fault (c.in-Err.is ∙ ap Err e))
    (λ e. c.read_all.ensures.too_long (c.in-Err.is ∙ ap Err e))
