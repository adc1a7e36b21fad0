use Rattle.std.proofs.Common.{sym}
use Rattle.text_writer.proofs.WritingLemmas.{alike}
use Rattle.reactions.proofs.part_texts.PartTexts.put.Goals as goal

pub returns-in-Some : goal.returns-in-Some
returns-in-Some g c = alike (c.requires c.args.number c.in-Some.text.now (sym c.in-Some.ensures)) c.put.ensures
