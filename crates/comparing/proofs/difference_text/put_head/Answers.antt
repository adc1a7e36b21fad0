use Rattle.text_writer.proofs.WritingLemmas.{followed}
use Rattle.comparing.proofs.difference_text.put_head.Goals as goal

pub returns : goal.returns
returns g c = λ m is. followed (followed c.put.ensures (followed (c.put_owner.ensures m is) (c.put_member.ensures m is))) c.put_line_end.ensures
