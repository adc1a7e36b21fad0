use Rattle.text_writer.proofs.WritingLemmas.{followed}
use Rattle.instance_texts.proofs.cell_ref.put_previous.Goals as goal

pub returns : goal.returns
returns g c = followed c.put.ensures c.put-2.ensures
