use Rattle.std.proofs.Common.{◌≡◌, ◌≢◌, ℕ, suc, [], ap, ◌∙◌, sym, subst}
use Rattle.rsml_meaning.specs.Words.{Each, Instance}
use Rattle.rsml_meaning.specs.Chains.{Ends}
use Rattle.reactions.specs.Stepping.{RoundIsDone}
use Rattle.simulator.specs.Simulation.{Simulation}
use Rattle.simulator.specs.Fitting.{FitsFile}
use Rattle.simulator.proofs.AnsweringLemmas.{fits_rest}
use Rattle.simulator.proofs.simulator.Simulator.round.Goals as goal

pub returns-clause-none : goal.returns-clause-none
returns-clause-none c = λ q.
    let idle = c.round.ensures.none q in
    (subst (λ (m : Simulation). m.present ≡ []) c.self.view_is idle.0, idle.1 ∙ c.self.view_is)

pub returns-clause-some : goal.returns-clause-some
returns-clause-some c = λ q. subst (λ (m : Simulation). m.present ≢ []) c.self.view_is (c.round.ensures.some q)

pub returns-clause-done : goal.returns-clause-done
returns-clause-done c = λ q.
    let new = c.round.new.self in
    subst (λ (m : Simulation). RoundIsDone m.spec m.world m.present new.last new.world new.present) c.self.view_is (c.round.ensures.done q)

pub returns-clause-longer : goal.returns-clause-longer
returns-clause-longer c = λ q.
    let new = c.round.new.self in
    subst (λ (m : Simulation). (x : Instance) (n : ℕ) → Each (Ends m.spec x n) m.present → Each (Ends m.spec x (suc n)) new.present) c.self.view_is (c.round.ensures.longer q)

pub returns-clause-rest : goal.returns-clause-rest
returns-clause-rest c =
    let new = c.round.new.self in
    c.round.ensures.rest ∙ ap (λ (m : Simulation). record m { world = new.world; present = new.present; last = new.last }) c.self.view_is

pub returns-clause-fits : goal.returns-clause-fits
returns-clause-fits c = λ content f.
    fits_rest content c.self.inside.course c.round.new.self c.round.ensures.rest (subst (FitsFile content) (sym c.self.view_is) f)
