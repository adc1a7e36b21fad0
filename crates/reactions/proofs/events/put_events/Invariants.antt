use Rattle.std.proofs.Common.{◌≡◌, ◌<◌, ◌-◌, true, flat_map, take}
use Rattle.rsml_meaning.specs.Instances.{events}
use Rattle.text_writer.specs.Writes.{Writes}
use Rattle.micro_step.specs.Places.{items_where}
use Rattle.event_graph.specs.Sets.{has}
use Rattle.reactions.specs.Lines.{spaced}
use Rattle.reactions.proofs.events.put_events.Given as goal

abbrev pub invariant-loop-next : goal.invariant-loop-next
invariant-loop-next g l = record {
  within : l.event < 1024;
  there : has l.present l.event ≡ true;
  written : Writes (g.W.Writer.state l.fn.writer) (g.W.Writer.text l.fn.writer) (flat_map spaced (items_where (has l.present) 0 (take l.event (events l.texts)))) (g.W.Writer.state l.writer) (g.W.Writer.text l.writer);
}

abbrev pub decreases-loop-next : goal.decreases-loop-next
decreases-loop-next g l = 1024 - l.event
