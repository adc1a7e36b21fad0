use Rattle.text_writer.proofs.WritingLemmas.{followed, alike}
use Rattle.reactions.proofs.EventTexts.{event_pieces}
use Rattle.reactions.proofs.events.put_event_line.Goals as goal

pub returns : goal.returns
returns g c x at =
    alike (event_pieces c.args.texts.now c.args.number c.args.receive x at) (followed c.put.ensures (followed c.put_number.ensures c.put-2.ensures))
