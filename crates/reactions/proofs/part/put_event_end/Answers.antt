use Rattle.text_writer.proofs.WritingLemmas.{followed}
use Rattle.reactions.proofs.part.put_event_end.Goals as goal

pub returns : goal.returns
returns g c = followed c.put_spaced.ensures c.put_line_end.ensures
