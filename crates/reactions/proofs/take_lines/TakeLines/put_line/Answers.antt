use Rattle.std.proofs.Common.{sym}
use Rattle.text_writer.proofs.WritingLemmas.{alike}
use Rattle.reactions.proofs.take_lines.TakeLines.put_line.Goals as goal

pub returns-in-Some : goal.returns-in-Some
returns-in-Some g c = alike (c.requires c.args.transition c.in-Some.line.now (sym c.in-Some.ensures)) c.put.ensures
