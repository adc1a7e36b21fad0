use Rattle.std.proofs.Common.{◌<◌, [], map, take, length, replicate, refl, sym, ap, ◌∙◌, subst, arith}
use Rattle.std.proofs.lemmas.List.{length-map}
use Rattle.ground_members.specs.declared.send_cases.GroundSendCase.{GroundSendCase}
use Rattle.ground_groups.specs.Heads.{with_item}
use Rattle.elaborate.proofs.OnEventLemmas.{none_on, next_on}
use Rattle.elaborate.proofs.on_events.cases_on.Goals as goal

pub loop-place-init : goal.loop-place-init
loop-place-init c = none_on c.args.count (map (λ x. x.event) (take 0 c.args.cases.now)) (map (λ x. x.items) c.in_ok-lists.lists.items) refl (c.in_ok-lists.ensures ∙ ap (λ n. replicate n []) (ap length c.as_slice.ensures.value ∙ c.in_ok-counts.ensures))

pub push_at-requires : goal.push_at-requires
push_at-requires c =
    let t = c.loop-place-test.true in
    let a = c.loop-place.auto.place-end in
    let x = c.index-cases-place.result in
    let less : x.event < c.args.count = subst (λ (z : GroundSendCase). z.event < c.args.count) (sym c.index-cases-place.is) (c.requires c.loop-place.place x (omega (arith, t, a))) in
    omega (arith, less, length-map c.loop-place.lists.items (λ l. l.items), c.loop-place.invariant.long)

pub loop-place-preserved : goal.loop-place-preserved
loop-place-preserved c =
    let t = c.loop-place-test.true in
    let a = c.loop-place.auto.place-end in
    let x = c.index-cases-place.result in
    let l : c.loop-place.place < length c.args.cases.now = omega (arith, t, a) in
    let less : x.event < c.args.count = subst (λ (z : GroundSendCase). z.event < c.args.count) (sym c.index-cases-place.is) (c.requires c.loop-place.place x l) in
    next_on (λ (z : GroundSendCase). z.event) c.args.cases.now c.args.count c.loop-place.place c.in_ok-number_of.field-0 x x (map (λ l. l.items) c.loop-place.lists.items) (map (λ l. l.items) c.push_at.new.lists.items)
    l c.index-cases-place.is less c.in_ok-number_of.ensures c.loop-place.invariant
    (c.in_ok-push_at.ensures ∙ ap (λ e. with_item e c.in_ok-number_of.field-0 (map (λ l. l.items) c.loop-place.lists.items)) c.event.ensures)
