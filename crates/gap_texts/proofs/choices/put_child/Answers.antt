use Rattle.text_writer.proofs.WritingLemmas.{followed}
use Rattle.gap_texts.proofs.choices.put_child.Goals as goal

pub returns : goal.returns
returns g c = followed (followed c.put.ensures (followed c.put_state.ensures c.put-2.ensures)) c.put_line_end.ensures
