use Rattle.std.proofs.Common.{Err, ap, ◌∙◌}
use Rattle.pairing.proofs.StartLemmas.{starts_on, starts_unread}
use Rattle.pairing.proofs.starting.start_in.Goals as goal

pub returns-in-Ok-clause-starts : goal.returns-in-Ok-clause-starts
returns-in-Ok-clause-starts g c = starts_on c.args.action _ c.in-Ok.text.items c.start_on.result c.in-Ok.ensures.whole c.start_on.ensures

pub returns-in-Err-clause-starts : goal.returns-in-Err-clause-starts
returns-in-Err-clause-starts g c =
    starts_unread c.args.action _ c.in-Err.error c.unread.result c.unread.ensures (λ e. c.read_all.ensures.fault (c.in-Err.is ∙ ap Err e))
    (λ e. c.read_all.ensures.too_long (c.in-Err.is ∙ ap Err e))
