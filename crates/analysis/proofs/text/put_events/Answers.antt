use Rattle.text_writer.proofs.WritingLemmas.{followed}
use Rattle.analysis.proofs.text.put_events.Goals as goal

pub returns : goal.returns
returns g c = followed c.put_chains.ensures (followed c.put_loops.ensures c.put_clashes.ensures)
