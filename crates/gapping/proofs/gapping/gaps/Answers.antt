use Rattle.judging.proofs.ShortLemmas.{short_text}
use Rattle.gapping.proofs.GapLemmas.{checked_is, long_output, unread_output, broken_output, told_output}
use Rattle.gapping.proofs.gapping.gaps.Goals as goal

pub gaps_of-requires-clause-short : goal.gaps_of-requires-clause-short
gaps_of-requires-clause-short c = short_text _ _ (checked_is _ _ _ c.in-Checked.is c.in_ok-kept.ensures).0

pub returns-in-TooLong : goal.returns-in-TooLong
returns-in-TooLong c = long_output _ _ _ c.in-TooLong.is c.in_ok-kept.ensures

pub returns-in-Unread : goal.returns-in-Unread
returns-in-Unread c = unread_output _ _ _ _ _ c.in-Unread.is c.fault.ensures c.in_ok-kept.ensures

pub returns-in-Broken : goal.returns-in-Broken
returns-in-Broken c = broken_output _ _ _ _ _ c.in-Broken.is c.fault-in-Broken.ensures c.in_ok-kept.ensures

pub returns-in-Checked : goal.returns-in-Checked
returns-in-Checked c = told_output _ _ _ _ (checked_is _ _ _ c.in-Checked.is c.in_ok-kept.ensures) c.gaps_of.ensures
