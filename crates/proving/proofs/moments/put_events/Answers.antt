use Rattle.text_writer.proofs.WritingLemmas.{followed}
use Rattle.proving.proofs.moments.put_events.Goals as goal

pub returns : goal.returns
returns g c = followed (followed c.put.ensures c.put_present.ensures) c.put_line_end.ensures
