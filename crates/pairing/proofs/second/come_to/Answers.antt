use Rattle.std.proofs.Common.{Err, ap, ◌∙◌}
use Rattle.pairing.specs.Steps.{ShownOutput}
use Rattle.pairing.proofs.CameLemmas.{came_read}
use Rattle.pairing.proofs.SecondLemmas.{second_unread}
use Rattle.pairing.proofs.second.come_to.Goals as goal

pub returns-in-Ok-clause-came : goal.returns-in-Ok-clause-came
returns-in-Ok-clause-came g c =
    came_read (ShownOutput c.args.action c.args.first.checked.now) _ c.in-Ok.text.items c.as_slice.result.now c.outcome_of.result c.in-Ok.ensures.whole
    c.as_slice.ensures.value c.outcome_of.ensures

pub returns-in-Err-clause-came : goal.returns-in-Err-clause-came
returns-in-Err-clause-came g c =
    second_unread c.args.action c.args.first.checked.now _ c.in-Err.error c.unread.result c.unread.ensures
    (λ e. c.read_all.ensures.fault (c.in-Err.is ∙ ap Err e)) (λ e. c.read_all.ensures.too_long (c.in-Err.is ∙ ap Err e))
