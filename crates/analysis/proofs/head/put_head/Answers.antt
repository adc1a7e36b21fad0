use Rattle.text_writer.proofs.WritingLemmas.{followed}
use Rattle.analysis.proofs.head.put_head.Goals as goal

pub returns : goal.returns
returns g c = followed c.put_name.ensures c.put_groups.ensures
