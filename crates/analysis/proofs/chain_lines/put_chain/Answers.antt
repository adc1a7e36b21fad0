use Rattle.text_writer.proofs.WritingLemmas.{followed}
use Rattle.analysis.proofs.chain_lines.put_chain.Goals as goal

pub returns : goal.returns
returns g c = followed (followed c.put.ensures (followed c.put_event.ensures (followed c.put-2.ensures c.put_length.ensures))) c.put_line_end.ensures
