use Rattle.std.proofs.Common.{◌≡◌, ◌<◌, ◌∷◌, [], length, take, IfSome, slice_get, sym, subst, arith, length-take}
use Rattle.rsml_syntax.specs.declared.syntax.Spec.{Spec}
use Rattle.rsml_meaning.specs.Interfaces.{receives}
use Rattle.rsml_meaning.specs.Runs.{latched}
use Rattle.interfaces.specs.Writes.{AreTyped}
use Rattle.elaborate.specs.Machine.{GroundMachine}
use Rattle.simulator.proofs.TurnLemmas.{fields_within, fields_typed, latches_to}
use Rattle.simulator.proofs.turns.latch.Goals as goal

pub fields-fields-requires : goal.fields-fields-requires
fields-fields-requires c = subst (λ (s : Spec). c.args.receive < length (receives s)) (sym c.interfaces.ensures) c.requires.there

pub slice_bounds-latch-end : goal.slice_bounds-latch-end
slice_bounds-latch-end c =
    let s = c.args.machine.now.base.spec in
    let n = c.fields-fields.result in
    let count = subst (λ (z : Spec). IfSome (slice_get (receives z) c.args.receive) (λ x. length x.inputs ≡ n)) c.interfaces.ensures c.fields-fields.ensures in
    let within = fields_within s c.args.receive n c.args.values.now c.requires.there count c.requires.holds in
    omega (arith, within, length-take n c.args.values.now)

pub latch-requires-clause-there : goal.latch-requires-clause-there
latch-requires-clause-there c = subst (λ (m : GroundMachine). c.args.receive < length (receives m.base.spec)) (sym c.requires.same) c.requires.there

pub latch-requires-clause-typed : goal.latch-requires-clause-typed
latch-requires-clause-typed c =
    let s = c.args.machine.now.base.spec in
    let n = c.fields-fields.result in
    let k = c.args.receive in
    let count = subst (λ (z : Spec). IfSome (slice_get (receives z) k) (λ x. length x.inputs ≡ n)) c.interfaces.ensures c.fields-fields.ensures in
    subst (λ (m : GroundMachine). IfSome (slice_get (receives m.base.spec) k) (λ x. AreTyped m.base.spec x.inputs (take n c.args.values.now))) (sym c.requires.same)
    (fields_typed s k n c.args.values.now c.requires.there count c.requires.holds)

pub returns-clause-latches : goal.returns-clause-latches
returns-clause-latches c x at =
    let s = c.args.machine.now.base.spec in
    let n = c.fields-fields.result in
    let k = c.args.receive in
    let old = c.args.running.now in
    let new = c.latch.new.self in
    let count = subst (λ (z : Spec). IfSome (slice_get (receives z) k) (λ x. length x.inputs ≡ n)) c.interfaces.ensures c.fields-fields.ensures in
    let changes =
    subst (λ (m : GroundMachine). IfSome (slice_get (receives m.base.spec) k) (λ x. new ≡ record old {
      world = latched m.base.spec old.world (record { receive = x; numbers = take n c.args.values.now });
      present = x.raised ∷ [];
    })) c.requires.same c.latch.ensures.changes in
    latches_to s k n c.args.values.now c.requires.there count old new changes x at
