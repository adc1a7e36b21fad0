use Rattle.std.proofs.Common.{flat_map, take}
use Rattle.rsml_meaning.specs.Instances.{events}
use Rattle.event_graph.specs.Sets.{has}
use Rattle.micro_step.specs.Places.{items_where}
use Rattle.text_writer.specs.Writes.{Writes}
use Rattle.proving.specs.ProveText.{event_part}
use Rattle.proving.proofs.moments.put_present.Given as goal

abbrev pub invariant-loop-event : goal.invariant-loop-event
invariant-loop-event g l =
    Writes (g.W.Writer.state l.fn.writer) (g.W.Writer.text l.fn.writer)
    (flat_map event_part (items_where (has l.present) 0 (take l.event (events l.machine.base.spec))))
    (g.W.Writer.state l.writer) (g.W.Writer.text l.writer)
