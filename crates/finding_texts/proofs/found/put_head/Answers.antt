use Rattle.text_writer.proofs.WritingLemmas.{followed}
use Rattle.finding_texts.proofs.found.put_head.Goals as goal

pub returns : goal.returns
returns g c = λ x at. followed (followed c.put.ensures (c.put_group.ensures x at)) c.put_line_end.ensures
