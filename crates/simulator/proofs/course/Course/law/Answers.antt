use Rattle.std.proofs.Common.{subst}
use Rattle.rsml_meaning.specs.Certified.{Certified}
use Rattle.rsml_meaning.specs.Scoped.{WellScoped}
use Rattle.simulator.specs.Simulation.{Simulation}
use Rattle.simulator.proofs.course.Course.law.Goals as goal

pub returns-clause-certified : goal.returns-clause-certified
returns-clause-certified c = subst (λ (m : Simulation). Certified m.spec) c.self.view_is c.law.ensures.certified

pub returns-clause-scoped : goal.returns-clause-scoped
returns-clause-scoped c = subst (λ (m : Simulation). WellScoped m.spec) c.self.view_is c.law.ensures.scoped
