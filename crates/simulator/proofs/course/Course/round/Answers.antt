use Rattle.std.proofs.Common.{◌≡◌, ◌≢◌, ℕ, suc, [], sym, ap, ◌∙◌, subst}
use Rattle.rsml_meaning.specs.Words.{Each, Instance}
use Rattle.rsml_meaning.specs.Chains.{Ends}
use Rattle.reactions.specs.Stepping.{RoundIsDone}
use Rattle.simulator.specs.Simulation.{Simulation}
use Rattle.simulator.specs.helpers.Turns.{Turning}
use Rattle.simulator.specs.helpers.Ready.{IsGoing}
use Rattle.simulator.specs.helpers.Taking.{simulation_of}
use Rattle.simulator.proofs.course.Course.round.Goals as goal

pub invariant_of-self : goal.invariant_of-self
invariant_of-self c =
    subst (λ (n : ℕ). IsGoing c.self.inside.reader c.self.inside.answered n) (sym (ap (λ (t : Turning). t.events) c.round.ensures.rest)) c.self.invariant

pub returns-clause-none : goal.returns-clause-none
returns-clause-none c = λ q.
    let idle = c.round.ensures.none q in (
      subst (λ (m : Simulation). m.present ≡ []) c.self.view_is idle.0,
      ap (λ (t : Turning). simulation_of t c.self.inside.reader c.self.inside.answered) idle.1 ∙ c.self.view_is,
    )

pub returns-clause-some : goal.returns-clause-some
returns-clause-some c = λ q. subst (λ (m : Simulation). m.present ≢ []) c.self.view_is (c.round.ensures.some q)

pub returns-clause-done : goal.returns-clause-done
returns-clause-done c = λ q.
    let new = c.round.new.self in
    subst (λ (m : Simulation). RoundIsDone m.spec m.world m.present new.last new.world new.present) c.self.view_is (c.round.ensures.done q)

pub returns-clause-longer : goal.returns-clause-longer
returns-clause-longer c = λ q.
    let new = c.round.new.self in
    subst (λ (m : Simulation). (x : Instance) (n : ℕ) → Each (Ends m.spec x n) m.present → Each (Ends m.spec x (suc n)) new.present) c.self.view_is (c.round.ensures.longer q)

pub returns-clause-rest : goal.returns-clause-rest
returns-clause-rest c =
    let new = c.round.new.self in
    ap (λ (t : Turning). simulation_of t c.self.inside.reader c.self.inside.answered) c.round.ensures.rest
    ∙ ap (λ (m : Simulation). record m { world = new.world; present = new.present; last = new.last }) c.self.view_is
