use Rattle.text_writer.proofs.WritingLemmas.{followed}
use Rattle.reactions.proofs.part.put_first.Goals as goal

pub returns : goal.returns
returns g c = followed c.put.ensures c.put_event_end.ensures
