use Rattle.std.proofs.Common.{subst}
use Rattle.rsml_syntax.specs.declared.syntax.Spec.{Spec}
use Rattle.event_chains.specs.Found.{AreClashes}
use Rattle.event_chains.proofs.FoundLemmas.{clashes_are}
use Rattle.event_chains.proofs.chains.Chains.clashes.Goals as goal

pub returns : goal.returns
returns c =
    subst (λ (s : Spec). AreClashes s c.clashes.result.now) c.self.view_is
    (clashes_are c.self.inside.spec.now c.self.inside.chains c.self.invariant.checked c.self.invariant.draws c.clashes.result.now c.clashes.ensures)
