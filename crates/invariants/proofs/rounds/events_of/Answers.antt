use Rattle.std.proofs.Common.{◌+◌, sym, ◌∙◌, subst, arith}
use Rattle.event_graph.specs.declared.events.Events.{Events}
use Rattle.event_graph.specs.Sets.{has}
use Rattle.invariants.proofs.RoundLemmas.{AreFront, front_put, front_skip, front_within}
use Rattle.invariants.proofs.rounds.events_of.Goals as goal
use Rattle.invariants.proofs.rounds.events_of.Goals.{then-has, else-has}

pub loop-event-init : goal.loop-event-init
loop-event-init c = record { below = λ q l. absurd (omega (arith, l)); above = λ q l. c.new-events.ensures q }

pub loop-event-preserved : goal.loop-event-preserved
loop-event-preserved c =
    let ends = has c.args.rounds.now.ends in
    let old = has c.loop-event.events in
    let n = c.loop-event.event in
    elim c.if-has.branch [
      | then-has w ↦ subst (λ (z : Events). AreFront ends (has z) (n + 1)) (sym w.events-is) (front_put ends old (has w.put.new.self) n c.loop-event.invariant (sym c.has.ensures ∙ w.if-has.true) w.put.ensures)
      | else-has w ↦ subst (λ (z : Events). AreFront ends (has z) (n + 1)) (sym w.events-is) (front_skip ends old n c.loop-event.invariant (sym c.has.ensures ∙ w.if-has.false))
    ]

pub returns-clause-events : goal.returns-clause-events
returns-clause-events c = λ k h. let l = front_within (has c.args.rounds.now.ends) (has c.loop-event.events) c.loop-event.event k c.loop-event.invariant h in let within = c.loop-event.auto.event-end in omega (arith, l, within, c.requires.count)
