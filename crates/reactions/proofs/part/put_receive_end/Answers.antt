use Rattle.text_writer.proofs.WritingLemmas.{followed}
use Rattle.reactions.proofs.part.put_receive_end.Goals as goal

pub returns : goal.returns
returns g c = followed (followed c.put.ensures c.put_receive.ensures) c.put_line_end.ensures
