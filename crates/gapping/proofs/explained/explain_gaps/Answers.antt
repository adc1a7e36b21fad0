use Rattle.judging.proofs.ShortLemmas.{short_text}
use Rattle.gapping.proofs.GapLemmas.{checked_is}
use Rattle.gapping.proofs.ExplainedLemmas.{long_explained, unread_explained, broken_explained, told_explained}
use Rattle.gapping.proofs.explained.explain_gaps.Goals as goal

pub explained_of-requires-clause-short : goal.explained_of-requires-clause-short
explained_of-requires-clause-short c = short_text _ _ (checked_is _ _ _ c.in-Checked.is c.in_ok-kept.ensures).0

pub returns-in-TooLong : goal.returns-in-TooLong
returns-in-TooLong c = long_explained _ _ _ c.in-TooLong.is c.in_ok-kept.ensures

pub returns-in-Unread : goal.returns-in-Unread
returns-in-Unread c = unread_explained _ _ _ _ _ c.in-Unread.is c.in_ok-kept.ensures c.explained_fault.ensures

pub returns-in-Broken : goal.returns-in-Broken
returns-in-Broken c = broken_explained _ _ _ _ _ c.in-Broken.is c.in_ok-kept.ensures c.explained_fault-in-Broken.ensures

pub returns-in-Checked : goal.returns-in-Checked
returns-in-Checked c = told_explained _ _ _ _ (checked_is _ _ _ c.in-Checked.is c.in_ok-kept.ensures) c.explained_of.ensures
