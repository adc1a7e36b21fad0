use Rattle.std.proofs.Common.{◌≡◌, ◌<◌, length, IfSome, slice_get, sym, subst, arith, length-take}
use Rattle.rsml_syntax.specs.declared.syntax.Spec.{Spec}
use Rattle.rsml_meaning.specs.Interfaces.{receives}
use Rattle.simulator.proofs.TurnLemmas.{fields_within, fields_typed}
use Rattle.run_counts.proofs.LineLemmas.{told_counted}
use Rattle.run_counts.proofs.events.count_told.Goals as goal

pub fields-fields-requires : goal.fields-fields-requires
fields-fields-requires c = subst (λ (s : Spec). c.args.receive < length (receives s)) (sym c.interfaces.ensures) c.requires.there

pub slice_bounds-count_event-end : goal.slice_bounds-count_event-end
slice_bounds-count_event-end c =
    let s = c.args.machine.now.base.spec in
    let n = c.fields-fields.result in
    let count = subst (λ (z : Spec). IfSome (slice_get (receives z) c.args.receive) (λ x. length x.inputs ≡ n)) c.interfaces.ensures c.fields-fields.ensures in
    let within = fields_within s c.args.receive n c.args.values.now c.requires.there count c.requires.holds in
    omega (arith, within, length-take n c.args.values.now)

pub count_event-requires-clause-typed : goal.count_event-requires-clause-typed
count_event-requires-clause-typed c =
    let s = c.args.machine.now.base.spec in
    let n = c.fields-fields.result in
    let count = subst (λ (z : Spec). IfSome (slice_get (receives z) c.args.receive) (λ x. length x.inputs ≡ n)) c.interfaces.ensures c.fields-fields.ensures in
    fields_typed s c.args.receive n c.args.values.now c.requires.there count c.requires.holds

pub returns-clause-counted : goal.returns-clause-counted
returns-clause-counted c x at =
    let s = c.args.machine.now.base.spec in
    let n = c.fields-fields.result in
    let count = subst (λ (z : Spec). IfSome (slice_get (receives z) c.args.receive) (λ x. length x.inputs ≡ n)) c.interfaces.ensures c.fields-fields.ensures in
    told_counted s c.args.receive n c.args.values.now c.args.progress.now.world c.count_event.new.progress.world c.args.progress.now.counts c.count_event.new.progress.counts count c.count_event.ensures.counted x at
