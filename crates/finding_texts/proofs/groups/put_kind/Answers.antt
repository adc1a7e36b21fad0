use Rattle.std.proofs.Common.{◌++◌, codes, ap, ◌∙◌, sym}
use Rattle.rsml_syntax.specs.declared.syntax.Spec.{Spec}
use Rattle.ground_groups.specs.declared.group.GroupKind.{GroupKind}
use Rattle.text_writer.proofs.WritingLemmas.{followed, alike}
use Rattle.finding_texts.specs.Numbers.{state_text, event_text, kind_text}
use Rattle.finding_texts.proofs.groups.put_kind.Goals as goal

pub returns-in-State : goal.returns-in-State
returns-in-State g c =
    alike (ap (λ (s : Spec). state_text s c.in-State.state ++ (codes " on " ++ event_text c.args.texts.now c.in-State.event)) c.requires
    ∙ ap (λ (kind : GroupKind). kind_text c.args.texts.now kind) (sym c.in-State.is))
    (followed c.put_state.ensures (followed c.put.ensures c.put_event.ensures))

pub returns-in-Send : goal.returns-in-Send
returns-in-Send g c =
    alike (ap (λ (kind : GroupKind). kind_text c.args.texts.now kind) (sym c.in-Send.is))
    (followed c.put-in-Send.ensures (followed c.put_send.ensures (followed c.put-in-Send-2.ensures c.put_event-in-Send.ensures)))

pub returns-in-Function : goal.returns-in-Function
returns-in-Function g c =
    alike (ap (λ (kind : GroupKind). kind_text c.args.texts.now kind) (sym c.in-Function.is))
    (followed c.put-in-Function.ensures c.put_function.ensures)
