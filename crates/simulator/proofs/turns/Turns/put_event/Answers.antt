use Rattle.std.proofs.Common.{ℕ, ◌<◌, length, slice_get, sym, ap, ◌∙◌, subst}
use Rattle.rsml_syntax.specs.declared.syntax.Spec.{Spec}
use Rattle.rsml_meaning.specs.Interfaces.{receives}
use Rattle.rsml_meaning.specs.Trace.{event_line}
use Rattle.elaborate.specs.Machine.{GroundMachine}
use Rattle.text_writer.specs.Writes.{Writes}
use Rattle.simulator.specs.helpers.Turns.{Turning}
use Rattle.simulator.proofs.turns.Turns.put_event.Goals as goal

pub put_event-requires : goal.put_event-requires
put_event-requires g c =
    let spec = ap (λ (m : GroundMachine). m.base.spec) c.self.invariant.running_is ∙ ap (λ (t : Turning). t.spec) c.self.view_is in
    subst (λ (s : Spec). c.args.receive < length (receives s)) (sym spec) c.requires

pub returns : goal.returns
returns g c x at =
    let spec = ap (λ (m : GroundMachine). m.base.spec) c.self.invariant.running_is ∙ ap (λ (t : Turning). t.spec) c.self.view_is in
    subst (λ (n : ℕ). Writes (g.W.Writer.state c.args.out.now) (g.W.Writer.text c.args.out.now) (event_line n x.receive)
    (g.W.Writer.state c.put_event.new.writer) (g.W.Writer.text c.put_event.new.writer)) (ap (λ (t : Turning). t.events) c.self.view_is)
    (c.put_event.ensures x (ap (λ (s : Spec). slice_get (receives s) c.args.receive) spec ∙ at))
