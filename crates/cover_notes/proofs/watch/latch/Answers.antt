use Rattle.std.proofs.Common.{◌≡◌, ◌<◌, length, take, IfSome, Some, slice_get, sym, subst, arith, length-take}
use Rattle.rsml_syntax.specs.declared.syntax.Spec.{Spec}
use Rattle.rsml_meaning.specs.Words.{place_in}
use Rattle.rsml_meaning.specs.Instances.{events}
use Rattle.rsml_meaning.specs.Interfaces.{receives}
use Rattle.rsml_meaning.specs.Worlds.{IsWorld}
use Rattle.state_tree.proofs.Lists.{get_within}
use Rattle.interfaces.specs.Writes.{AreTyped}
use Rattle.simulator.proofs.TurnLemmas.{fields_within, fields_typed}
use Rattle.reactions.proofs.RaisedLemmas.{raised_at, set_is}
use Rattle.cover_notes.proofs.watch.latch.Goals as goal

pub fields-fields-requires : goal.fields-fields-requires
fields-fields-requires c = subst (λ (s : Spec). c.args.receive < length (receives s)) (sym c.interfaces-interfaces.ensures) c.requires.there

pub slice_bounds-latch-end : goal.slice_bounds-latch-end
slice_bounds-latch-end c =
    let s = c.args.machine.now.base.spec in
    let n = c.fields-fields.result in
    let count = subst (λ (z : Spec). IfSome (slice_get (receives z) c.args.receive) (λ x. length x.inputs ≡ n)) c.interfaces-interfaces.ensures c.fields-fields.ensures in
    let within = fields_within s c.args.receive n c.args.values.now c.requires.there count c.requires.holds in
    omega (arith, within, length-take n c.args.values.now)

pub latch-requires-clause-world : goal.latch-requires-clause-world
latch-requires-clause-world c = subst (λ (s : Spec). IsWorld s c.args.world.now) (sym c.interfaces-interfaces.ensures) c.requires.world

pub latch-requires-clause-there : goal.latch-requires-clause-there
latch-requires-clause-there c = subst (λ (s : Spec). c.args.receive < length (receives s)) (sym c.interfaces-interfaces.ensures) c.requires.there

pub latch-requires-clause-typed : goal.latch-requires-clause-typed
latch-requires-clause-typed c =
    let s = c.args.machine.now.base.spec in
    let n = c.fields-fields.result in
    let k = c.args.receive in
    let count = subst (λ (z : Spec). IfSome (slice_get (receives z) k) (λ x. length x.inputs ≡ n)) c.interfaces-interfaces.ensures c.fields-fields.ensures in
    subst (λ (z : Spec). IfSome (slice_get (receives z) k) (λ x. AreTyped z x.inputs (take n c.args.values.now))) (sym c.interfaces-interfaces.ensures)
    (fields_typed s k n c.args.values.now c.requires.there count c.requires.holds)

pub raised-event-requires : goal.raised-event-requires
raised-event-requires c = subst (λ (s : Spec). c.args.receive < length (receives s)) (sym c.interfaces-interfaces.ensures) c.requires.there

pub put-requires : goal.put-requires
put-requires c =
    let s = c.args.machine.now.base.spec in
    let n = c.raised-event.result in
    let at =
    raised_at s c.args.receive n c.requires.there
    (subst (λ (u : Spec). IfSome (slice_get (receives u) c.args.receive) (λ x. place_in (events u) x.raised ≡ Some n)) c.interfaces-interfaces.ensures c.raised-event.ensures) in
    let below = get_within (events s) n at.0.raised at.2 in
    omega (arith, below, c.events-count.ensures.count, c.events-count.ensures.few)

pub returns-clause-world : goal.returns-clause-world
returns-clause-world c = subst (λ (s : Spec). IsWorld s c.latch.new.world) c.interfaces-interfaces.ensures c.latch.ensures.world

pub returns-clause-events : goal.returns-clause-events
returns-clause-events c =
    let s = c.args.machine.now.base.spec in
    let n = c.raised-event.result in
    let at =
    raised_at s c.args.receive n c.requires.there
    (subst (λ (u : Spec). IfSome (slice_get (receives u) c.args.receive) (λ x. place_in (events u) x.raised ≡ Some n)) c.interfaces-interfaces.ensures c.raised-event.ensures) in
    set_is s n at.0.raised c.new-present.result c.put.new.self c.new-present.ensures c.put.ensures at.2
