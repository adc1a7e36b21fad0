use Rattle.std.proofs.Common.{subst}
use Rattle.rsml_syntax.specs.declared.syntax.Spec.{Spec}
use Rattle.event_chains.specs.Found.{AreLooping}
use Rattle.event_chains.proofs.FoundLemmas.{looping_is}
use Rattle.event_chains.proofs.chains.Chains.loops.Goals as goal

pub returns : goal.returns
returns c =
    subst (λ (s : Spec). AreLooping s c.loops.result.now) c.self.view_is
    (looping_is c.self.inside.spec.now c.self.inside.chains c.self.invariant.checked c.self.invariant.draws c.loops.result.now c.loops.ensures)
