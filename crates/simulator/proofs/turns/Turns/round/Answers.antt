use Rattle.std.proofs.Common.{◌≡◌, ◌≢◌, ℕ, suc, [], refl, sym, ap, ◌∙◌, subst}
use Rattle.rsml_meaning.specs.Words.{Each, Instance}
use Rattle.rsml_meaning.specs.Certified.{Certified}
use Rattle.rsml_meaning.specs.Chains.{Ends}
use Rattle.elaborate.specs.Machine.{GroundMachine}
use Rattle.reactions.specs.Stepping.{InWorld, RoundIsDone}
use Rattle.simulator.specs.helpers.Turns.{Turning}
use Rattle.simulator.proofs.TurnLemmas.{turning}
use Rattle.simulator.proofs.turns.Turns.round.Goals as goal

pub invariant_of-self : goal.invariant_of-self
invariant_of-self c = record {
  running_is = c.round.ensures.machine ∙ c.self.invariant.running_is;
  forms_are = c.self.invariant.forms_are;
  room = c.self.invariant.room;
  certified = c.self.invariant.certified;
}

pub returns-clause-none : goal.returns-clause-none
returns-clause-none c = λ q.
    let s = c.self.inside.machine.now.base.spec in
    let idle = c.round.ensures.none q in (
      subst (λ (t : Turning). t.present ≡ []) c.self.view_is idle.0,
      ap (λ (v : InWorld). turning s v.world v.present c.self.inside.events v.last) idle.1 ∙ c.self.view_is,
    )

pub returns-clause-some : goal.returns-clause-some
returns-clause-some c = λ q. subst (λ (t : Turning). t.present ≢ []) c.self.view_is (c.round.ensures.some q)

pub returns-clause-done : goal.returns-clause-done
returns-clause-done c = λ q.
    let old = c.self.inside.running in
    let new = c.round.new.self in
    subst (λ (t : Turning). RoundIsDone t.spec t.world t.present new.last new.world new.present) c.self.view_is
    (subst (λ (m : GroundMachine). RoundIsDone m.base.spec old.world old.present new.last new.world new.present) c.self.invariant.running_is (c.round.ensures.done q))

pub returns-clause-longer : goal.returns-clause-longer
returns-clause-longer c = λ q.
    let old = c.self.inside.running in
    let new = c.round.new.self in
    let certified = subst (λ (m : GroundMachine). Certified m.base.spec) (sym c.self.invariant.running_is) c.self.invariant.certified in
    subst (λ (t : Turning). (x : Instance) (n : ℕ) → Each (Ends t.spec x n) t.present → Each (Ends t.spec x (suc n)) new.present) c.self.view_is
    (subst (λ (m : GroundMachine). (x : Instance) (n : ℕ) → Each (Ends m.base.spec x n) old.present → Each (Ends m.base.spec x (suc n)) new.present) c.self.invariant.running_is
    (c.round.ensures.longer q certified))

pub returns-clause-rest : goal.returns-clause-rest
returns-clause-rest c =
    let s = c.self.inside.machine.now.base.spec in
    let new = c.round.new.self in
    subst (λ (t : Turning). turning s new.world new.present c.self.inside.events new.last ≡ record t { world = new.world; present = new.present; last = new.last }) c.self.view_is refl
