use Rattle.text_writer.proofs.WritingLemmas.{followed}
use Rattle.finding_texts.proofs.found.put_confirmed.Goals as goal

pub returns : goal.returns
returns g c = followed c.put.ensures c.put_line_end.ensures
