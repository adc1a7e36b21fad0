use Rattle.std.proofs.Common.{List, sym, ap, ◌∙◌, flat_map, refl, arith}
use Rattle.rsml_meaning.specs.Words.{Instance}
use Rattle.rsml_meaning.specs.Instances.{events}
use Rattle.rsml_meaning.specs.Trace.{round_line}
use Rattle.micro_step.specs.Micros.{events_in}
use Rattle.event_graph.specs.Sets.{has}
use Rattle.micro_step.proofs.PlaceLemmas.{none_left}
use Rattle.text_writer.proofs.WritingLemmas.{followed, alike}
use Rattle.reactions.specs.Lines.{spaced}
use Rattle.reactions.proofs.EventTexts.{none_at_all, round_pieces}
use Rattle.reactions.proofs.events.put_pieces.Goals as goal

pub put_events-requires-clause-there : goal.put_events-requires-clause-there
put_events-requires-clause-there g c = c.in-Some.ensures.some.2

pub put_events-requires-clause-first : goal.put_events-requires-clause-first
put_events-requires-clause-first g c q l = c.in-Some.ensures.some.3 q (omega arith) l

pub returns-in-Some : goal.returns-in-Some
returns-in-Some g c =
    alike (round_pieces c.args.number (flat_map spaced (events_in c.args.texts.now c.args.present.now)))
    (followed c.put_opening.ensures c.put_events.ensures)

pub returns-in-None : goal.returns-in-None
returns-in-None g c =
    let s = c.args.texts.now in
    let rest = none_left (has c.args.present.now) c.args.count 0 (λ k e. let b = c.requires.present k e in omega (arith, b, c.requires.count)) (c.in-None.ensures.none refl) in
    alike (round_pieces c.args.number _ ∙ ap (λ (es : List Instance). round_line c.args.number es) (sym (none_at_all (has c.args.present.now) (events s) rest)))
    (followed c.put_opening.ensures c.put_line_end.ensures)
