use Rattle.std.proofs.Common.{◌≡◌, ◌<◌, ◌≤◌, ℕ, List, length, Option, None, IfSome, true≢false, sym, ap, ◌∙◌, subst}
use Rattle.rsml_syntax.specs.declared.syntax.Spec.{Spec}
use Rattle.rsml_meaning.specs.Words.{Each}
use Rattle.rsml_meaning.specs.Interfaces.{receives}
use Rattle.rsml_meaning.specs.Runs.{first_world}
use Rattle.rsml_meaning.specs.Worlds.{IsWorld}
use Rattle.micro_step.specs.Numbers.{left_by}
use Rattle.reactions.specs.Stepping.{Held, Incoming, IsIncoming}
use Rattle.reactions.proofs.SettledLemmas.{first_settled}
use Rattle.reactions.proofs.WrittenLemmas.{no_events}
use Rattle.reactions.proofs.running.Running.new.Goals as goal

pub invariant_of-result : goal.invariant_of-result
invariant_of-result c =
    let m = c.args.machine.now in
    let s = m.base.spec in
    let w = c.in_ok-world.world in
    let nothing = c.in_ok-scratch.ensures.none_taken in
    let held : c.in_ok-waiting.waiting.message ≡ None = ap (λ (h : Held). h.message) c.in_ok-waiting.ensures in
    record {
      traced = c.in_ok-traces.ensures;
      made = c.in_ok-scratch.ensures.made;
      is_world = c.in_ok-world.ensures.world;
      taken_are = subst (λ (ks : List ℕ). Each (λ k. k < length m.transitions) ks) (sym nothing) tt;
      left_is_world = subst (λ (ks : List ℕ). IsWorld s (left_by m w ks)) (sym nothing) c.in_ok-world.ensures.world;
      knows = c.in_ok-scratch.ensures.knows w;
      events_now = λ q h. absurd (true≢false (sym h ∙ c.new-present.ensures q));
      events_before = λ q h. absurd (true≢false (sym h ∙ c.new-before.ensures q));
      message = subst (λ (o : Option Incoming). IfSome o (IsIncoming s)) (sym held) tt;
      none = λ e. held;
      room =
          subst (λ (h : Held). Each (λ x. length x.inputs ≤ h.room) (receives s)) (sym c.in_ok-waiting.ensures)
          (subst (λ (z : Spec). Each (λ x. length x.inputs ≤ c.args.fields) (receives z)) (sym c.requires.machine) c.requires.fields);
    }

pub returns-clause-first : goal.returns-clause-first
returns-clause-first c =
    let held : c.in_ok-waiting.waiting.message ≡ None = ap (λ (h : Held). h.message) c.in_ok-waiting.ensures in
    first_settled c.args.machine.now c.in_ok-world.world c.in_ok-scratch.scratch.taken.items c.in_ok-waiting.waiting.message c.in_ok-scratch.ensures.none_taken held
    ∙ c.in_ok-world.ensures.first ∙ ap first_world c.requires.machine

pub returns-clause-none : goal.returns-clause-none
returns-clause-none c = no_events c.args.machine.now.base.spec c.new-present.result (λ q l. c.new-present.ensures q)
