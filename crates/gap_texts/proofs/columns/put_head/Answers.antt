use Rattle.text_writer.proofs.WritingLemmas.{followed}
use Rattle.gap_texts.proofs.columns.put_head.Goals as goal

pub returns : goal.returns
returns g c = followed (followed c.put.ensures c.put_number.ensures) c.put_line_end.ensures
