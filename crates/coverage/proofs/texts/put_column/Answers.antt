use Rattle.text_writer.proofs.WritingLemmas.{followed}
use Rattle.coverage.proofs.texts.put_column.Goals as goal

pub returns : goal.returns
returns g c = followed (followed c.put.ensures (followed c.put_number.ensures (followed c.put-2.ensures c.put_number-2.ensures))) c.put_line_end.ensures
