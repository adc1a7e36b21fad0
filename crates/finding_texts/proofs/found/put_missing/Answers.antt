use Rattle.text_writer.proofs.WritingLemmas.{followed}
use Rattle.finding_texts.proofs.found.put_missing.Goals as goal

pub returns : goal.returns
returns g c = λ x at. followed (c.put_head.ensures x at) (followed c.put_world.ensures c.put_confirmed.ensures)
