use Rattle.std.proofs.Common.{subst}
use Rattle.rsml_syntax.specs.declared.syntax.Spec.{Spec}
use Rattle.elaborate.specs.Parts.{AreReceives}
use Rattle.elaborate.proofs.Marked.{mark_at}
use Rattle.elaborate.proofs.receives.Receives.external.Goals as goal

pub returns : goal.returns
returns c = λ e at.
    let x = c.self.inside in
    mark_at c.args.self.now x.count c.args.event x.external.items c.index.result.now e (subst (λ (s : Spec). AreReceives s x.count x.external.items) c.self.view_is c.self.invariant) at c.index.ensures
