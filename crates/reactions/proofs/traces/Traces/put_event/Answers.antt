use Rattle.std.proofs.Common.{slice_get, sym, ap, ◌∙◌, subst}
use Rattle.rsml_syntax.specs.declared.syntax.Spec.{Spec}
use Rattle.rsml_meaning.specs.Interfaces.{receives}
use Rattle.elaborate.specs.Machine.{GroundMachine}
use Rattle.reactions.specs.Lines.{ArePartTexts}
use Rattle.reactions.specs.declared.part.Part.TheVariants as part
use Rattle.reactions.proofs.traces.Traces.put_event.Goals as goal

pub put_event_line-requires : goal.put_event_line-requires
put_event_line-requires g c =
    subst (λ (s : Spec). ArePartTexts part.Receive s c.self.inside.parts.receives) (sym c.self.invariant.texts_are) c.self.invariant.parts_are.receives_are

pub returns : goal.returns
returns g c x at =
    c.put_event_line.ensures x
    (ap (λ (s : Spec). slice_get (receives s) c.args.receive) (c.self.invariant.texts_are ∙ ap (λ (m : GroundMachine). m.base.spec) c.self.view_is) ∙ at)
