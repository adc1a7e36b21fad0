use Rattle.std.proofs.Common.{◌<◌, map, take, length, refl, sym, ap, ◌∙◌, subst, arith}
use Rattle.std.proofs.lemmas.List.{length-map}
use Rattle.ground_members.specs.declared.transitions.GroundTransition.{GroundTransition}
use Rattle.ground_groups.specs.Heads.{with_item}
use Rattle.elaborate.proofs.OnEventLemmas.{none_on, next_on}
use Rattle.elaborate.proofs.on_events.transitions_on.Goals as goal

pub loop-place-init : goal.loop-place-init
loop-place-init c = none_on c.args.count (map (λ x. x.event) (take 0 c.args.transitions.now)) (map (λ x. x.items) c.in_ok-lists.lists.items) refl c.in_ok-lists.ensures

pub push_at-requires : goal.push_at-requires
push_at-requires c =
    let t = c.loop-place-test.true in
    let a = c.loop-place.auto.place-end in
    let x = c.index-transitions-place.result in
    let less : x.event < c.args.count = subst (λ (z : GroundTransition). z.event < c.args.count) (sym c.index-transitions-place.is) (c.requires c.loop-place.place x (omega (arith, t, a))) in
    omega (arith, less, length-map c.loop-place.lists.items (λ l. l.items), c.loop-place.invariant.long)

pub loop-place-preserved : goal.loop-place-preserved
loop-place-preserved c =
    let t = c.loop-place-test.true in
    let a = c.loop-place.auto.place-end in
    let x = c.index-transitions-place.result in
    let l : c.loop-place.place < length c.args.transitions.now = omega (arith, t, a) in
    let less : x.event < c.args.count = subst (λ (z : GroundTransition). z.event < c.args.count) (sym c.index-transitions-place.is) (c.requires c.loop-place.place x l) in
    next_on (λ (z : GroundTransition). z.event) c.args.transitions.now c.args.count c.loop-place.place c.in_ok-number_of.field-0 x x (map (λ l. l.items) c.loop-place.lists.items) (map (λ l. l.items) c.push_at.new.lists.items)
    l c.index-transitions-place.is less c.in_ok-number_of.ensures c.loop-place.invariant
    (c.in_ok-push_at.ensures ∙ ap (λ e. with_item e c.in_ok-number_of.field-0 (map (λ l. l.items) c.loop-place.lists.items)) c.event.ensures)
