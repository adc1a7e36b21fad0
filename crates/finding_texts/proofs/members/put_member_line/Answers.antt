use Rattle.text_writer.proofs.WritingLemmas.{followed}
use Rattle.finding_texts.proofs.members.put_member_line.Goals as goal

pub returns : goal.returns
returns g c = λ m is. followed (followed c.put.ensures (c.put_member.ensures m is)) c.put_line_end.ensures
