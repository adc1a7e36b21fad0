use Rattle.std.proofs.Common.{◌≡◌, ◌<◌, length, Some, slice_get, sym, subst}
use Rattle.rsml_meaning.specs.Interfaces.{receives}
use Rattle.rsml_meaning.specs.Trace.{event_line}
use Rattle.text_writer.specs.Writes.{Writes}
use Rattle.simulator.specs.Simulation.{Simulation}
use Rattle.simulator.proofs.course.Course.put_event.Goals as goal

pub put_event-requires : goal.put_event-requires
put_event-requires g c = subst (λ (m : Simulation). c.args.receive < length (receives m.spec)) (sym c.self.view_is) c.requires

pub returns : goal.returns
returns g c x at =
    subst (λ (m : Simulation). Writes (g.W.Writer.state c.args.out.now) (g.W.Writer.text c.args.out.now) (event_line m.events x.receive)
    (g.W.Writer.state c.put_event.new.out) (g.W.Writer.text c.put_event.new.out)) c.self.view_is
    (c.put_event.ensures x (subst (λ (m : Simulation). slice_get (receives m.spec) c.args.receive ≡ Some x) (sym c.self.view_is) at))
