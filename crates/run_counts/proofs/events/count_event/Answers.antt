use Rattle.std.proofs.Common.{◌≡◌, ◌+◌, Option, IfSome, slice_get, refl, sym, subst}
use Rattle.rsml_syntax.specs.declared.syntax.Spec.{Spec}
use Rattle.rsml_meaning.specs.Interfaces.{ReceiveInstance, receives}
use Rattle.rsml_meaning.specs.Runs.{latched}
use Rattle.rsml_meaning.specs.Worlds.{IsWorld}
use Rattle.state_tree.proofs.Lists.{within_get}
use Rattle.micro_step.specs.Micros.{events_in}
use Rattle.reactions.proofs.RaisedLemmas.{raised_external}
use Rattle.run_counts.specs.Series.{EventIsCounted}
use Rattle.run_counts.proofs.SumLemmas.{made}
use Rattle.run_counts.proofs.EventLemmas.{event_counted}
use Rattle.run_counts.proofs.events.count_event.Goals as goal

pub latch-requires-clause-world : goal.latch-requires-clause-world
latch-requires-clause-world c = subst (λ (s : Spec). IsWorld s c.args.progress.now.world) (sym c.interfaces-interfaces.ensures) c.requires.ready.is_world

pub count_step-requires-clause-ready : goal.count_step-requires-clause-ready
count_step-requires-clause-ready c = record {
  made = c.requires.ready.made;
  is_world = subst (λ (s : Spec). IsWorld s c.latch.new.world) c.interfaces-interfaces.ensures c.latch.ensures.world;
  takes_fit = c.requires.ready.takes_fit;
  moves_fit = c.requires.ready.moves_fit;
}

pub count_step-requires-clause-external : goal.count_step-requires-clause-external
count_step-requires-clause-external c =
    let s = c.args.machine.now.base.spec in
    let x = within_get (receives s) c.args.receive c.requires.there in
    (x.0.raised, raised_external s c.args.receive x.0 x.1, c.raised-events.ensures.one x.0 x.1)

pub returns-clause-counted : goal.returns-clause-counted
returns-clause-counted c =
    let s = c.args.machine.now.base.spec in
    let k = c.args.receive in
    let ns = c.args.numbers.now in
    let w = c.args.progress.now.world in
    let after = c.count_step.new.progress in
    let x = within_get (receives s) k c.requires.there in
    let is =
    subst (λ (u : Spec). IfSome (slice_get (receives u) k) (λ y. c.latch.new.world ≡ latched u w (record { receive = y; numbers = ns }))) c.interfaces-interfaces.ensures c.latch.ensures.is in
    let is_latched = subst (λ (o : Option ReceiveInstance). IfSome o (λ y. c.latch.new.world ≡ latched s w (record { receive = y; numbers = ns }))) x.1 is in
    let counts = made (after.counts.events + 1) after.counts.rounds after.counts.takes after.counts.moves in
    subst (λ (o : Option ReceiveInstance). IfSome o (λ y. EventIsCounted s (record { receive = y; numbers = ns }) w after.world c.args.progress.now.counts counts)) (sym x.1)
    (event_counted s (record { receive = x.0; numbers = ns }) w c.latch.new.world after.world (events_in s c.raised-events.result) c.args.progress.now.counts after.counts counts
    is_latched (c.raised-events.ensures.one x.0 x.1) c.count_step.ensures.counted refl)
