use Rattle.std.proofs.Common.{IsTrue, subst}
use Rattle.rsml_syntax.specs.declared.syntax.Spec.{Spec}
use Rattle.rsml_meaning.specs.Words.{Instance}
use Rattle.rsml_meaning.specs.Chains.{is_external}
use Rattle.rsml_meaning.specs.Report.{IsLengthAnswer}
use Rattle.ground_members.specs.Members.{IsEvent}
use Rattle.event_chains.proofs.ChainLemmas.{length_agrees}
use Rattle.event_chains.proofs.chains.Chains.length.Goals as goal

pub returns : goal.returns
returns c =
    subst (λ (s : Spec). (e : Instance) → IsEvent s e c.args.event → IsTrue (is_external s e) → IsLengthAnswer s e c.length.result) c.self.view_is
    (λ e k t. length_agrees c.self.inside.spec.now c.self.inside.chains c.self.invariant.checked c.self.invariant.draws c.args.event e k t c.length.result c.length.ensures.answer)
