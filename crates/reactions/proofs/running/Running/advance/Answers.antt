use Rattle.std.proofs.Common.{◌≡◌, ◌<◌, ◌≤◌, ◌&&◌, ℕ, suc, List, fold, length, Option, None, IfSome, sym, ap, ◌∙◌, subst}
use Rattle.rsml_syntax.specs.declared.world.World.{World}
use Rattle.rsml_meaning.specs.Words.{Each, Instance}
use Rattle.rsml_meaning.specs.Certified.{Certified}
use Rattle.rsml_meaning.specs.Chains.{Ends}
use Rattle.rsml_meaning.specs.Interfaces.{receives}
use Rattle.rsml_meaning.specs.Worlds.{IsWorld}
use Rattle.rsml_syntax.specs.declared.syntax.Spec.{Spec}
use Rattle.elaborate.specs.Enabled.{is_enabled}
use Rattle.micro_step.specs.Micros.{events_in}
use Rattle.micro_step.specs.Numbers.{after_number, left_by}
use Rattle.event_graph.specs.Sets.{has}
use Rattle.micro_step.proofs.LoopLemmas.{places_below}
use Rattle.micro_step.proofs.MicroLemmas.{world_choices}
use Rattle.reactions.specs.Stepping.{Held, Incoming, InWorld, IsIncoming, RoundIsDone, last_of, latched_by, settled}
use Rattle.reactions.proofs.SettledLemmas.{idle_settled}
use Rattle.reactions.proofs.WrittenLemmas.{round_done}
use Rattle.reactions.proofs.running.Running.advance.Goals as goal

pub enter_all-requires-clause-fit : goal.enter_all-requires-clause-fit
enter_all-requires-clause-fit c = world_choices c.self.inside.machine.now.base.spec c.self.inside.world c.self.invariant.is_world

pub enter_all-requires-clause-taken : goal.enter_all-requires-clause-taken
enter_all-requires-clause-taken c =
    subst (λ (ks : List ℕ). Each (λ k. k < length c.self.inside.machine.now.transitions) ks) (sym c.taken.ensures) c.self.invariant.taken_are

pub latch-requires-clause-world : goal.latch-requires-clause-world
latch-requires-clause-world c =
    let m = c.self.inside.machine.now in
    let w = c.self.inside.world in
    let entered = c.enter_all.ensures ∙ ap (λ (ks : List ℕ). fold (after_number m) w.choices ks) c.taken.ensures in
    subst (λ (s : Spec). IsWorld s (record w { choices = c.enter_all.new.choices })) (sym c.interfaces.ensures)
    (subst (λ (ns : List ℕ). IsWorld m.base.spec (record w { choices = ns })) (sym entered) c.self.invariant.left_is_world)

pub latch-requires-clause-message : goal.latch-requires-clause-message
latch-requires-clause-message c =
    subst (λ (s : Spec). IfSome c.self.inside.waiting.message (IsIncoming s)) (sym c.interfaces.ensures) c.self.invariant.message

pub react-requires-clause-world : goal.react-requires-clause-world
react-requires-clause-world c = subst (λ (s : Spec). IsWorld s c.latch.new.world) c.interfaces.ensures c.latch.ensures.world

pub invariant_of-self : goal.invariant_of-self
invariant_of-self c =
    let m = c.self.inside.machine.now in
    let s = m.base.spec in
    let w = c.latch.new.world in
    let held = c.latch.new.self in
    let none : held.message ≡ None = ap (λ (h : Held). h.message) c.latch.ensures.none in
    record {
      traced = c.self.invariant.traced;
      made = c.react.ensures.made;
      is_world = subst (λ (z : Spec). IsWorld z w) c.interfaces.ensures c.latch.ensures.world;
      taken_are = places_below (λ x. has c.self.inside.present x.event && is_enabled m w x) m.transitions c.react.new.scratch.taken.items c.react.ensures.taken;
      left_is_world = c.react.ensures.left;
      knows = c.react.ensures.knows;
      events_now = c.react.ensures.events;
      events_before = c.self.invariant.events_now;
      message = subst (λ (o : Option Incoming). IfSome o (IsIncoming s)) (sym none) tt;
      none = λ e. none;
      room = subst (λ (h : Held). Each (λ x. length x.inputs ≤ h.room) (receives s)) (sym c.latch.ensures.none) c.self.invariant.room;
    }

pub returns-clause-machine : goal.returns-clause-machine
returns-clause-machine c = ap (λ (v : InWorld). v.machine) c.self.view_is

pub returns-clause-done : goal.returns-clause-done
returns-clause-done c =
    let m = c.self.inside.machine.now in
    let s = m.base.spec in
    let w = c.self.inside.world in
    let w' = c.latch.new.world in
    let before = c.self.inside.present in
    let k = c.react.new.scratch in
    let held = c.latch.new.self in
    let none : held.message ≡ None = ap (λ (h : Held). h.message) c.latch.ensures.none in
    let entered = c.enter_all.ensures ∙ ap (λ (ks : List ℕ). fold (after_number m) w.choices ks) c.taken.ensures in
    let began : w' ≡ settled m w c.self.inside.scratch.taken.items c.self.inside.waiting.message =
    c.latch.ensures.latched ∙ ap (λ (z : Spec). latched_by z (record w { choices = c.enter_all.new.choices }) c.self.inside.waiting.message) c.interfaces.ensures
    ∙ ap (λ (ns : List ℕ). latched_by s (record w { choices = ns }) c.self.inside.waiting.message) entered in
    let left : settled m w' k.taken.items held.message ≡ left_by m w' k.taken.items = idle_settled m w' k.taken.items held.message none in
    let done : RoundIsDone s w' (events_in s before) (last_of s w' before k) (left_by m w' k.taken.items) (events_in s c.react.new.events) =
    round_done s w' (left_by m w' k.taken.items) before c.react.new.events k c.react.ensures.micro in
    subst (λ (v : InWorld). RoundIsDone v.machine.base.spec v.world v.present (last_of s w' before k) (settled m w' k.taken.items held.message) (events_in s c.react.new.events)) c.self.view_is
    (subst (λ (v : World). RoundIsDone s v (events_in s before) (last_of s w' before k) (settled m w' k.taken.items held.message) (events_in s c.react.new.events)) began
    (subst (λ (v : World). RoundIsDone s w' (events_in s before) (last_of s w' before k) v (events_in s c.react.new.events)) (sym left) done))

pub returns-clause-longer : goal.returns-clause-longer
returns-clause-longer c =
    let s = c.self.inside.machine.now.base.spec in
    subst (λ (v : InWorld). Certified v.machine.base.spec → (x : Instance) (n : ℕ) → Each (Ends v.machine.base.spec x n) v.present
    → Each (Ends v.machine.base.spec x (suc n)) (events_in s c.react.new.events)) c.self.view_is
    (λ cert x n ends. (c.react.ensures.certified cert x n ends).1)
