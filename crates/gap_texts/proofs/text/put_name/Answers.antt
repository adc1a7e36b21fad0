use Rattle.text_writer.proofs.WritingLemmas.{followed}
use Rattle.gap_texts.proofs.text.put_name.Goals as goal

pub returns : goal.returns
returns g c = followed (followed c.put.ensures c.put-2.ensures) c.put_line_end.ensures
