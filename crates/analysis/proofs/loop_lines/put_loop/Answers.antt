use Rattle.text_writer.proofs.WritingLemmas.{followed}
use Rattle.analysis.proofs.loop_lines.put_loop.Goals as goal

pub returns : goal.returns
returns g c = followed (followed c.put.ensures c.put_event.ensures) c.put_line_end.ensures
