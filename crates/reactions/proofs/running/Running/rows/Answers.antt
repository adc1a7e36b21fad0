use Rattle.std.proofs.Common.{◌≡◌, ◌<◌, ℕ, List, length, sym, ap, ◌∙◌, subst}
use Rattle.rsml_meaning.specs.Words.{Each}
use Rattle.rsml_meaning.specs.Worlds.{IsWorld}
use Rattle.micro_step.specs.Micros.{events_in}
use Rattle.micro_step.specs.Numbers.{Kept, left_by}
use Rattle.micro_step.specs.Rows.{bits_of, member_rows}
use Rattle.reactions.specs.Stepping.{InWorld, last_of, settled}
use Rattle.reactions.proofs.SettledLemmas.{still_for}
use Rattle.reactions.proofs.running.Running.rows.Goals as goal

pub invariant_of-self : goal.invariant_of-self
invariant_of-self c =
    let m = c.self.inside.machine.now in
    let taken : c.rows.new.self.taken.items ≡ c.self.inside.scratch.taken.items = ap (λ (k : Kept). k.taken.items) c.rows.ensures.rest in
    record {
      traced = c.self.invariant.traced;
      made = still_for m c.self.inside.scratch c.rows.new.self c.rows.ensures.rest c.rows.ensures.knows.count c.self.invariant.made;
      is_world = c.self.invariant.is_world;
      taken_are = subst (λ (ks : List ℕ). Each (λ k. k < length m.transitions) ks) (sym taken) c.self.invariant.taken_are;
      left_is_world = subst (λ (ks : List ℕ). IsWorld m.base.spec (left_by m c.self.inside.world ks)) (sym taken) c.self.invariant.left_is_world;
      knows = c.rows.ensures.knows;
      events_now = c.self.invariant.events_now;
      events_before = c.self.invariant.events_before;
      message = c.self.invariant.message;
      none = c.self.invariant.none;
      room = c.self.invariant.room;
    }

pub returns-clause-rows : goal.returns-clause-rows
returns-clause-rows c = subst (λ (v : InWorld). c.rows.result ≡ bits_of (member_rows v.machine.base.spec v.last.world c.args.member)) c.self.view_is c.rows.ensures.rows

pub returns-clause-unchanged : goal.returns-clause-unchanged
returns-clause-unchanged c =
    let m = c.self.inside.machine.now in
    let s = m.base.spec in
    let w = c.self.inside.world in
    let seen : Kept → InWorld = λ k. record {
      machine = m;
      world = settled m w k.taken.items c.self.inside.waiting.message;
      present = events_in s c.self.inside.present;
      last = last_of s w c.self.inside.before k;
    } in
    ap seen c.rows.ensures.rest ∙ c.self.view_is
