use Rattle.judging.proofs.JudgementLemmas.{broken_is, checked_is, judgements_of, unread_is}
use Rattle.judging.proofs.ShortLemmas.{short_text}
use Rattle.judging.proofs.judging.judge.Goals as goal

pub analyse-requires : goal.analyse-requires
analyse-requires c = short_text _ _ (checked_is _ _ _ c.in-Checked.is c.in_ok-kept.ensures).0

pub returns-in-Unread : goal.returns-in-Unread
returns-in-Unread c = unread_is _ _ _ c.in-Unread.is c.in_ok-kept.ensures

pub returns-in-Broken : goal.returns-in-Broken
returns-in-Broken c = broken_is _ _ _ c.in-Broken.is c.in_ok-kept.ensures

pub returns-in-Checked : goal.returns-in-Checked
returns-in-Checked c = judgements_of _ _ _ (checked_is _ _ _ c.in-Checked.is c.in_ok-kept.ensures).0 c.analyse.ensures
