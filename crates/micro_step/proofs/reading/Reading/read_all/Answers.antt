use Rattle.std.proofs.Common.{◌&&◌, List, ℕ, refl, ap, ◌∙◌, arith}
use Rattle.elaborate.specs.Enabled.{is_enabled, is_sending}
use Rattle.micro_step.specs.Rising.{among}
use Rattle.event_graph.specs.Sets.{has}
use Rattle.micro_step.proofs.PlaceLemmas.{events_none, events_more, events_all, are_places, none_left}
use Rattle.micro_step.proofs.reading.Reading.read_all.Goals as goal

pub loop-event-init : goal.loop-event-init
loop-event-init c =
    let m = c.args.machine.now in
    let w = c.args.world.now in
    let set = has c.args.present.now in
    record {
      reading = c.requires.reading;
      taken = λ q. ap (λ (ks : List ℕ). among ks q) c.requires.none_taken ∙ events_none set (λ x. x.event) (is_enabled m w) m.transitions q;
      sent = λ q. ap (λ (ks : List ℕ). among ks q) c.requires.none_sent ∙ events_none set (λ x. x.event) (is_sending m w) m.send_cases q;
    }

pub read_on-requires-clause-event : goal.read_on-requires-clause-event
read_on-requires-clause-event c = c.requires.present c.in-Some.event c.in-Some.ensures.some.2

pub loop-event-preserved : goal.loop-event-preserved
loop-event-preserved c =
    let m = c.args.machine.now in
    let w = c.args.world.now in
    let set = has c.args.present.now in
    let before = c.loop-event.self in
    let after = c.read_on.new.self in
    let next = c.in-Some.ensures.some in
    record {
      reading = c.read_on.ensures.reading;
      taken = events_more set (λ x. x.event) (is_enabled m w) m.transitions before.taken.items after.taken.items c.loop-event.from c.in-Some.event
          next.0 next.2 next.3 c.loop-event.invariant.taken c.read_on.ensures.taken;
      sent = events_more set (λ x. x.event) (is_sending m w) m.send_cases before.sent.items after.sent.items c.loop-event.from c.in-Some.event
          next.0 next.2 next.3 c.loop-event.invariant.sent c.read_on.ensures.sent;
    }

pub returns-clause-taken : goal.returns-clause-taken
returns-clause-taken c =
    let m = c.args.machine.now in
    let w = c.args.world.now in
    let set = has c.args.present.now in
    let past = none_left set c.events-count.result c.loop-event.from (λ k e. let b = c.requires.present k e in omega (arith, b, c.events-count.ensures.count)) (c.in_default.ensures.none refl) in
    are_places (λ x. set x.event && is_enabled m w x) m.transitions c.loop-event.self.taken.items c.loop-event.invariant.reading.rising_taken
    (λ q. c.loop-event.invariant.taken q ∙ events_all set (λ x. x.event) (is_enabled m w) m.transitions q c.loop-event.from past)

pub returns-clause-sent : goal.returns-clause-sent
returns-clause-sent c =
    let m = c.args.machine.now in
    let w = c.args.world.now in
    let set = has c.args.present.now in
    let past = none_left set c.events-count.result c.loop-event.from (λ k e. let b = c.requires.present k e in omega (arith, b, c.events-count.ensures.count)) (c.in_default.ensures.none refl) in
    are_places (λ x. set x.event && is_sending m w x) m.send_cases c.loop-event.self.sent.items c.loop-event.invariant.reading.rising_sent
    (λ q. c.loop-event.invariant.sent q ∙ events_all set (λ x. x.event) (is_sending m w) m.send_cases q c.loop-event.from past)
