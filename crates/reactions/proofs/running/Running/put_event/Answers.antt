use Rattle.std.proofs.Common.{◌<◌, length, slice_get, sym, ap, ◌∙◌, subst}
use Rattle.rsml_meaning.specs.Interfaces.{receives}
use Rattle.elaborate.specs.Machine.{GroundMachine}
use Rattle.reactions.specs.Stepping.{InWorld}
use Rattle.reactions.proofs.running.Running.put_event.Goals as goal

pub put_event-requires : goal.put_event-requires
put_event-requires g c =
    subst (λ (m : GroundMachine). c.args.receive < length (receives m.base.spec)) (sym (c.self.invariant.traced ∙ ap (λ (v : InWorld). v.machine) c.self.view_is)) c.requires

pub returns : goal.returns
returns g c x at =
    c.put_event.ensures x (ap (λ (m : GroundMachine). slice_get (receives m.base.spec) c.args.receive) (c.self.invariant.traced ∙ ap (λ (v : InWorld). v.machine) c.self.view_is) ∙ at)
