use Rattle.std.proofs.Common.{sym, subst}
use Rattle.source_notes.specs.Comments.{AreComments}
use Rattle.explaining.proofs.ExplainLemmas.{explain_output, explain_status}
use Rattle.explaining.proofs.explaining.explained.Goals as goal

pub returns-clause-output : goal.returns-clause-output
returns-clause-output c =
    explain_output c.args.text.now c.as_slice.result.now c.args.judgement c.judged.result c.followed_by.result c.requires c.judged.ensures
    (subst AreComments (sym c.as_slice.ensures.value) c.in_ok-notes.ensures) c.followed_by.ensures

pub returns-clause-status : goal.returns-clause-status
returns-clause-status c = explain_status c.as_slice.result.now c.args.judgement c.judged.result c.followed_by.result c.judged.ensures c.followed_by.ensures
