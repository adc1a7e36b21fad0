use Rattle.text_writer.proofs.WritingLemmas.{followed}
use Rattle.reactions.proofs.takes.put_line.Goals as goal

pub returns : goal.returns
returns g c ps t place at is = followed (followed c.put.ensures (c.put_label.ensures ps t place at is)) c.put_line_end.ensures
