use Rattle.answering.specs.Lines as lines
use Rattle.judging.proofs.ShortLemmas.{short_text}
use Rattle.comparing.proofs.CompareLemmas.{checked_is, long_fault, unread_fault, broken_fault}
use Rattle.comparing.proofs.ExplainedLemmas.{unfit_explained, compared_explained}
use Rattle.comparing.proofs.explained.explain_compare.Goals as goal

pub explain_checked-requires-clause-two : goal.explain_checked-requires-clause-two
explain_checked-requires-clause-two c = short_text _ _ (checked_is _ _ _ c.in-Checked.is c.in_ok-kept.ensures).0

pub returns-in-TooLong : goal.returns-in-TooLong
returns-in-TooLong c = unfit_explained _ _ lines.long _ _ (long_fault _ _ c.in-TooLong.is c.in_ok-kept.ensures) c.explained_unfit.ensures

pub returns-in-Unread : goal.returns-in-Unread
returns-in-Unread c = unfit_explained _ _ _ _ _ (unread_fault _ _ _ _ c.in-Unread.is c.as_slice.ensures.value c.in_ok-kept.ensures) c.explained_unfit-in-Unread.ensures

pub returns-in-Broken : goal.returns-in-Broken
returns-in-Broken c = unfit_explained _ _ _ _ _ (broken_fault _ _ _ _ c.in-Broken.is c.as_slice-in-Broken.ensures.value c.in_ok-kept.ensures) c.explained_unfit-in-Broken.ensures

pub returns-in-Checked : goal.returns-in-Checked
returns-in-Checked c = compared_explained _ _ _ _ (checked_is _ _ _ c.in-Checked.is c.in_ok-kept.ensures) c.explain_checked.ensures
