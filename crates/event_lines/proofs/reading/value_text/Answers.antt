use Rattle.std.proofs.Common.{sym}
use Rattle.event_lines.proofs.FieldTexts.{no_name, text_is}
use Rattle.event_lines.proofs.reading.value_text.Goals as goal

pub returns-in-None : goal.returns-in-None
returns-in-None c = sym (no_name c.args.name.now c.args.word.now c.in-None.ensures)

pub returns-in-Some : goal.returns-in-Some
returns-in-Some c = text_is c.args.name.now c.args.word.now c.in-Some.rest.now c.behind_mark.result c.in-Some.ensures c.behind_mark.ensures
