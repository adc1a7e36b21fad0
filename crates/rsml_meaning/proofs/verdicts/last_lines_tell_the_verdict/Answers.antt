use Rattle.rsml_meaning.proofs.Verdict.{last_line_is_verdict}
use Rattle.rsml_meaning.proofs.verdicts.last_lines_tell_the_verdict.Goals as goal

pub returns : goal.returns
returns c = record { last_line_is_verdict = last_line_is_verdict }
