use Rattle.std.proofs.Common.{arith}
use Rattle.micro_step.proofs.CandidateLemmas.{first_none, first_more, first_all}
use Rattle.micro_step.proofs.prepared.on_events.Goals as goal

pub loop-event-init : goal.loop-event-init
loop-event-init c = first_none c.args.machine.now c.in_ok-prepared.prepared.items c.in_ok-prepared.ensures.items

pub loop-event-preserved : goal.loop-event-preserved
loop-event-preserved c =
    first_more c.args.machine.now c.loop-event.event c.loop-event.prepared.items _ c.in_ok-on_event.field-0 c.in_ok-push.ensures.items c.in_ok-on_event.ensures c.loop-event.invariant

pub returns : goal.returns
returns c =
    first_all c.args.machine.now c.loop-event.event c.loop-event.prepared.items
    (omega (arith, c.events-count.ensures.count, c.loop-event-test.false, c.loop-event.auto.event-end)) c.loop-event.invariant
