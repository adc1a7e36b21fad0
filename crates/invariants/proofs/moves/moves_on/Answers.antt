use Rattle.std.proofs.Common.{◌<◌, length, sym, ap, ◌∙◌, subst, arith}
use Rattle.std.proofs.lemmas.List.{take_all}
use Rattle.event_graph.specs.Sets.{has}
use Rattle.micro_step.specs.Places.{places_where}
use Rattle.invariants.proofs.MoveLemmas.{event_below, place_if}
use Rattle.invariants.proofs.moves.moves_on.Goals as goal

pub has-is_on-requires : goal.has-is_on-requires
has-is_on-requires c =
    subst (λ n. n < 1024) (sym c.event-event.ensures) (event_below c.args.machine.now c.law.ensures c.loop-number.number c.transition.result.now c.transition.ensures)

pub loop-number-preserved : goal.loop-number-preserved
loop-number-preserved c =
    let m = c.args.machine.now in
    let less : c.loop-number.number < length m.transitions = let l = c.loop-number-test.true in omega (arith, l, c.transitions-number-end.ensures) in
    place_if (λ x. has c.args.events.now x.event) m.transitions c.loop-number.number c.transition.result.now c.has-is_on.result c.loop-number.moves.items c.put_if.new.numbers.items
    less c.transition.ensures (c.has-is_on.ensures ∙ ap (has c.args.events.now) c.event-event.ensures) c.loop-number.invariant c.in_ok-put_if.ensures

pub returns : goal.returns
returns c =
    let m = c.args.machine.now in
    c.loop-number.invariant
    ∙ ap (places_where (λ x. has c.args.events.now x.event) 0) (take_all c.loop-number.number m.transitions (let l = c.loop-number-test.false in omega (arith, l, c.transitions-number-end.ensures)))
