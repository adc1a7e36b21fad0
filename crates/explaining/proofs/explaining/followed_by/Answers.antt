use Rattle.explaining.proofs.ExplainLemmas.{text_followed, unread_followed, long_followed}
use Rattle.explaining.proofs.explaining.followed_by.Goals as goal

pub returns-in_ok-put-in-Text : goal.returns-in_ok-put-in-Text
returns-in_ok-put-in-Text c = text_followed c.args.outcome c.in-Text.status c.in-Text.text _ c.args.notes.now c.in-Text.is c.in_ok-put-in-Text.ensures.ok

pub returns-in-Unread : goal.returns-in-Unread
returns-in-Unread c = unread_followed c.args.outcome c.args.notes.now c.in-Unread.is

pub returns-in-Long : goal.returns-in-Long
returns-in-Long c = long_followed c.args.outcome c.args.notes.now c.in-Long.is
