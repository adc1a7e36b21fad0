use Rattle.event_file.specs.Reading.{limits_of}
use Rattle.event_file.proofs.AnswerLemmas.{new_fits}
use Rattle.event_file.proofs.line_reader.LineReader.new.Goals as goal

pub returns-clause-fits : goal.returns-clause-fits
returns-clause-fits c = λ content. rw c.in_ok-new.ensures (new_fits (limits_of c.args.limits) content)
