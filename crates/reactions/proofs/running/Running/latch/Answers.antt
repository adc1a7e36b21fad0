use Rattle.std.proofs.Common.{◌≡◌, ◌<◌, ◌≤◌, ◌∷◌, [], length, Option, None, IfSome, slice_get, sym, ap, ◌∙◌, subst}
use Rattle.rsml_syntax.specs.declared.world.World.{World}
use Rattle.rsml_meaning.specs.Words.{Each}
use Rattle.rsml_meaning.specs.Interfaces.{ReceiveInstance, receives}
use Rattle.rsml_meaning.specs.Runs.{latched}
use Rattle.state_tree.proofs.Lists.{within_get}
use Rattle.interfaces.specs.Writes.{AreTyped}
use Rattle.micro_step.specs.Micros.{events_in}
use Rattle.reactions.specs.Stepping.{Held, InWorld, IsExternal, IsIncoming, last_of, settled}
use Rattle.reactions.proofs.RaisedLemmas.{raised_external}
use Rattle.reactions.proofs.SettledLemmas.{idle_settled, message_settled, is_incoming, fits_room}
use Rattle.reactions.proofs.WrittenLemmas.{in_world, not_empty}
use Rattle.reactions.proofs.running.Running.latch.Goals as goal

pub raise-requires : goal.raise-requires
raise-requires c = subst (λ (v : InWorld). c.args.receive < length (receives v.machine.base.spec)) (sym c.self.view_is) c.requires.there

pub put-requires : goal.put-requires
put-requires c =
    let there = subst (λ (v : InWorld). c.args.receive < length (receives v.machine.base.spec)) (sym c.self.view_is) c.requires.there in
    let typed =
    subst (λ (v : InWorld). IfSome (slice_get (receives v.machine.base.spec) c.args.receive) (λ x. AreTyped v.machine.base.spec x.inputs c.args.numbers.now)) (sym c.self.view_is) c.requires.typed in
    fits_room c.self.inside.machine.now.base.spec c.args.receive c.args.numbers.now there typed c.self.inside.waiting.room c.self.invariant.room

pub invariant_of-self : goal.invariant_of-self
invariant_of-self c =
    let s = c.self.inside.machine.now.base.spec in
    let k = c.args.receive in
    let there = subst (λ (v : InWorld). k < length (receives v.machine.base.spec)) (sym c.self.view_is) c.requires.there in
    let typed =
    subst (λ (v : InWorld). IfSome (slice_get (receives v.machine.base.spec) k) (λ x. AreTyped v.machine.base.spec x.inputs c.args.numbers.now)) (sym c.self.view_is) c.requires.typed in
    let x = within_get (receives s) k there in
    let present : events_in s c.raise.new.present ≡ x.0.raised ∷ [] = c.raise.ensures.one x.0 x.1 in
    record {
      traced = c.self.invariant.traced;
      made = c.self.invariant.made;
      is_world = c.self.invariant.is_world;
      taken_are = c.self.invariant.taken_are;
      left_is_world = c.self.invariant.left_is_world;
      knows = c.self.invariant.knows;
      events_now = c.raise.ensures.events;
      events_before = c.self.invariant.events_before;
      message =
          subst (λ (h : Held). IfSome h.message (IsIncoming s)) (sym c.put.ensures) (is_incoming s k c.args.numbers.now there typed);
      none = λ e. absurd (not_empty x.0.raised [] (sym present ∙ e));
      room = subst (λ (h : Held). Each (λ x. length x.inputs ≤ h.room) (receives s)) (sym c.put.ensures) c.self.invariant.room;
    }

pub returns-clause-machine : goal.returns-clause-machine
returns-clause-machine c = ap (λ (v : InWorld). v.machine) c.self.view_is

pub returns-clause-changes : goal.returns-clause-changes
returns-clause-changes c =
    let m = c.self.inside.machine.now in
    let s = m.base.spec in
    let w = c.self.inside.world in
    let taken = c.self.inside.scratch.taken.items in
    let k = c.args.receive in
    let ns = c.args.numbers.now in
    let last = last_of s w c.self.inside.before c.self.inside.scratch in
    let old = settled m w taken c.self.inside.waiting.message in
    let held = c.put.new.self.message in
    let new : InWorld = record { machine = m; world = settled m w taken held; present = events_in s c.raise.new.present; last = last } in
    let there : k < length (receives s) = subst (λ (v : InWorld). k < length (receives v.machine.base.spec)) (sym c.self.view_is) c.requires.there in
    let x = within_get (receives s) k there in
    let idle : c.self.inside.waiting.message ≡ None = c.self.invariant.none (subst (λ (v : InWorld). v.present ≡ []) (sym c.self.view_is) c.requires.none) in
    let world : settled m w taken held ≡ latched s old (record { receive = x.0; numbers = ns }) =
    ap (λ (h : Held). settled m w taken h.message) c.put.ensures ∙ message_settled m w taken k ns x.0 x.1
    ∙ ap (λ (v : World). latched s v (record { receive = x.0; numbers = ns })) (sym (idle_settled m w taken c.self.inside.waiting.message idle)) in
    let is = in_world m (settled m w taken held) (latched s old (record { receive = x.0; numbers = ns })) (events_in s c.raise.new.present) (x.0.raised ∷ []) last
    world (c.raise.ensures.one x.0 x.1) in
    subst (λ (v : InWorld). IfSome (slice_get (receives v.machine.base.spec) k) (λ y. new ≡ record v {
      world = latched v.machine.base.spec v.world (record { receive = y; numbers = ns });
      present = y.raised ∷ [];
    })) c.self.view_is
    (subst (λ (o : Option ReceiveInstance). IfSome o (λ y. new ≡ (let changed : InWorld = record {
      machine = m;
      world = latched s old (record { receive = y; numbers = ns });
      present = y.raised ∷ [];
      last = last;
    } in changed))) (sym x.1) is)

pub returns-clause-external : goal.returns-clause-external
returns-clause-external c =
    let s = c.self.inside.machine.now.base.spec in
    let k = c.args.receive in
    let there : k < length (receives s) = subst (λ (v : InWorld). k < length (receives v.machine.base.spec)) (sym c.self.view_is) c.requires.there in
    let x = within_get (receives s) k there in
    let is : IsExternal s (events_in s c.raise.new.present) = (x.0.raised, raised_external s k x.0 x.1, c.raise.ensures.one x.0 x.1) in
    subst (λ (v : InWorld). IsExternal v.machine.base.spec (events_in s c.raise.new.present)) c.self.view_is is
