use Rattle.std.proofs.Common.{subst}
use Rattle.rsml_meaning.specs.Certified.{Certified}
use Rattle.rsml_meaning.specs.Scoped.{WellScoped}
use Rattle.rsml_meaning.proofs.rules.Scoped.{rules_give_scopes}
use Rattle.simulator.specs.helpers.Turns.{Turning}
use Rattle.simulator.proofs.turns.Turns.law.Goals as goal

pub returns-clause-certified : goal.returns-clause-certified
returns-clause-certified c = subst (λ (t : Turning). Certified t.spec) c.self.view_is c.self.invariant.certified

pub returns-clause-scoped : goal.returns-clause-scoped
returns-clause-scoped c =
    let spec = c.self.inside.machine.now.base.spec in
    let scoped : WellScoped spec = rules_give_scopes spec c.law.ensures.grounded.checked.keeps.rules in
    subst (λ (t : Turning). WellScoped t.spec) c.self.view_is scoped
