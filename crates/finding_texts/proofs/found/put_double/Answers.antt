use Rattle.text_writer.proofs.WritingLemmas.{followed}
use Rattle.finding_texts.proofs.found.put_double.Goals as goal

pub returns : goal.returns
returns g c = λ x at. followed (c.put_head.ensures x at) (followed c.put_world.ensures (followed (c.put_enabled.ensures x at) c.put_confirmed.ensures))
