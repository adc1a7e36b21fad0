use Rattle.std.proofs.Common.{◌++◌, Bool, [], codes, if◌then◌else◌, sym, ap, ◌∙◌}
use Rattle.event_graph.specs.Sets.{has}
use Rattle.finding_texts.specs.Numbers.{event_text}
use Rattle.text_writer.proofs.WritingLemmas.{followed, alike, still}
use Rattle.proving.proofs.moments.put_if_present.Goals as goal

pub returns-then-has : goal.returns-then-has
returns-then-has g c =
    alike (sym (ap (λ (b : Bool). if b then codes " " ++ event_text c.args.texts.now c.args.event else []) (sym c.has.ensures ∙ c.if-has.true)))
    (followed c.put.ensures c.put_event.ensures)

pub returns-else-has : goal.returns-else-has
returns-else-has g c =
    alike (sym (ap (λ (b : Bool). if b then codes " " ++ event_text c.args.texts.now c.args.event else []) (sym c.has.ensures ∙ c.if-has.false)))
    (still (g.W.Writer.state c.args.writer.now) (g.W.Writer.text c.args.writer.now))
