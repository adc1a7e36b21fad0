use Rattle.answering.specs.Lines as lines
use Rattle.judging.proofs.ShortLemmas.{short_text}
use Rattle.comparing.proofs.CompareLemmas.{checked_is, long_fault, unread_fault, broken_fault, unfit_output, compared_output}
use Rattle.comparing.proofs.comparing.compare.Goals as goal

pub compare_checked-requires-clause-two : goal.compare_checked-requires-clause-two
compare_checked-requires-clause-two c = short_text _ _ (checked_is _ _ _ c.in-Checked.is c.in_ok-kept.ensures).0

pub returns-in-TooLong : goal.returns-in-TooLong
returns-in-TooLong c = unfit_output _ _ lines.long _ _ (long_fault _ _ c.in-TooLong.is c.in_ok-kept.ensures) c.unfit.ensures

pub returns-in-Unread : goal.returns-in-Unread
returns-in-Unread c = unfit_output _ _ _ _ _ (unread_fault _ _ _ _ c.in-Unread.is c.as_slice.ensures.value c.in_ok-kept.ensures) c.unfit-in-Unread.ensures

pub returns-in-Broken : goal.returns-in-Broken
returns-in-Broken c = unfit_output _ _ _ _ _ (broken_fault _ _ _ _ c.in-Broken.is c.as_slice-in-Broken.ensures.value c.in_ok-kept.ensures) c.unfit-in-Broken.ensures

pub returns-in-Checked : goal.returns-in-Checked
returns-in-Checked c = compared_output _ _ _ _ (checked_is _ _ _ c.in-Checked.is c.in_ok-kept.ensures) c.compare_checked.ensures
