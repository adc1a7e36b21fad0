use Rattle.text_writer.proofs.WritingLemmas.{alike, followed}
use Rattle.comparing.proofs.difference_text.put_side.Goals as goal

pub returns : goal.returns
returns g c = followed (alike c.side.ensures c.put.ensures) c.put_line_end.ensures
