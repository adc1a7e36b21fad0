use Rattle.std.proofs.Common.{◌++◌, List, [], codes, flat_map, if◌then◌else◌, ap, arith}
use Rattle.std.proofs.lemmas.List.{take_all}
use Rattle.rsml_syntax.specs.declared.syntax.Spec.{Spec}
use Rattle.rsml_meaning.specs.Words.{Instance}
use Rattle.rsml_meaning.specs.Instances.{events}
use Rattle.finding_texts.specs.Numbers.{event_text}
use Rattle.event_graph.specs.Sets.{has}
use Rattle.micro_step.specs.Places.{items_where}
use Rattle.state_tree.proofs.Lists.{within_get}
use Rattle.text_writer.proofs.WritingLemmas.{followed, alike}
use Rattle.proving.specs.ProveText.{event_part}
use Rattle.proving.proofs.TextLemmas.{one_present}
use Rattle.proving.proofs.moments.put_present.Goals as goal

pub loop-event-preserved : goal.loop-event-preserved
loop-event-preserved g c =
    let s = c.args.machine.now.base.spec in
    let p = has c.args.present.now in
    let k = c.loop-event.event in
    let x = within_get (events s) k (omega arith) in
    alike (one_present p (events s) k x.0 x.1)
    (followed c.loop-event.invariant (alike (ap (λ (t : Spec). if p k then codes " " ++ event_text t k else []) c.requires) c.put_if_present.ensures))

pub returns : goal.returns
returns g c =
    let s = c.args.machine.now.base.spec in
    alike (ap (λ (es : List Instance). flat_map event_part (items_where (has c.args.present.now) 0 es)) (take_all c.loop-event.event (events s) (omega arith))) c.loop-event.invariant
