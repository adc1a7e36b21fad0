use Rattle.text_writer.proofs.WritingLemmas.{followed}
use Rattle.analysis.proofs.clash_lines.put_two.Goals as goal

pub returns : goal.returns
returns g c = followed c.put.ensures (followed c.put_event.ensures (followed c.put-2.ensures c.put_event-2.ensures))
