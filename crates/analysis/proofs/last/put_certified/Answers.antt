use Rattle.text_writer.proofs.WritingLemmas.{followed}
use Rattle.analysis.proofs.last.put_certified.Goals as goal

pub returns : goal.returns
returns g c = followed c.put.ensures c.put_line_end.ensures
