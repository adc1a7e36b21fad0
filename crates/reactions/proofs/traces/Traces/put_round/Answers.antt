use Rattle.std.proofs.Common.{◌≡◌, length, sym, ap, ◌∙◌, subst}
use Rattle.rsml_syntax.specs.declared.syntax.Spec.{Spec}
use Rattle.rsml_meaning.specs.Instances.{events}
use Rattle.elaborate.specs.Machine.{GroundMachine}
use Rattle.micro_step.specs.Micros.{AreEvents}
use Rattle.micro_step.specs.Numbers.{IsFor}
use Rattle.text_writer.proofs.WritingLemmas.{followed, alike}
use Rattle.reactions.specs.Lines.{ArePartTexts}
use Rattle.reactions.specs.declared.part.Part.TheVariants as part
use Rattle.reactions.proofs.RoundTexts.{round_is}
use Rattle.reactions.proofs.traces.Traces.put_round.Goals as goal

pub put_round_line-requires-clause-count : goal.put_round_line-requires-clause-count
put_round_line-requires-clause-count g c = subst (λ (s : Spec). c.events-count.result ≡ length (events s)) (sym c.self.invariant.texts_are) c.events-count.ensures.count

pub put_round_line-requires-clause-few : goal.put_round_line-requires-clause-few
put_round_line-requires-clause-few g c = c.events-count.ensures.few

pub put_round_line-requires-clause-present : goal.put_round_line-requires-clause-present
put_round_line-requires-clause-present g c =
    subst (λ (s : Spec). AreEvents s c.args.present.now) (sym (c.self.invariant.texts_are ∙ ap (λ (m : GroundMachine). m.base.spec) c.self.view_is)) c.requires.events

pub put_round_line-requires-clause-ends : goal.put_round_line-requires-clause-ends
put_round_line-requires-clause-ends g c =
    subst (λ (s : Spec). ArePartTexts part.Event s c.self.inside.parts.events) (sym c.self.invariant.texts_are) c.self.invariant.parts_are.events_are

pub put_round_line-requires-clause-firsts : goal.put_round_line-requires-clause-firsts
put_round_line-requires-clause-firsts g c =
    subst (λ (s : Spec). ArePartTexts part.First s c.self.inside.parts.firsts) (sym c.self.invariant.texts_are) c.self.invariant.parts_are.firsts_are

pub put_sends-requires-clause-starts : goal.put_sends-requires-clause-starts
put_sends-requires-clause-starts g c =
    subst (λ (s : Spec). ArePartTexts part.Send s c.self.inside.parts.sends) (sym c.self.invariant.texts_are) c.self.invariant.parts_are.sends_are

pub put_sends-requires-clause-made : goal.put_sends-requires-clause-made
put_sends-requires-clause-made g c = subst (λ (m : GroundMachine). IsFor m c.args.scratch.now) (sym c.self.view_is) c.requires.made

pub returns : goal.returns
returns g c r is =
    alike (round_is c.args.self.now _ _ c.args.number c.args.present.now c.args.scratch.now c.taken.result.now r c.self.view_is c.self.invariant.texts_are c.taken.ensures is)
    (followed c.put_round_line.ensures (followed c.put_lines.ensures c.put_sends.ensures))
