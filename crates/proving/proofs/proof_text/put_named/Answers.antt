use Rattle.text_writer.proofs.WritingLemmas.{followed}
use Rattle.proving.proofs.proof_text.put_named.Goals as goal

pub returns : goal.returns
returns g c = followed (followed c.put.ensures c.put-2.ensures) c.put_line_end.ensures
