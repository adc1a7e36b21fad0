use Rattle.std.proofs.Common.{◌≡◌, Some, slice_get, ap, ◌∙◌, subst}
use Rattle.rsml_syntax.specs.declared.syntax.Spec.{Spec}
use Rattle.rsml_meaning.specs.Words.{Instance}
use Rattle.rsml_meaning.specs.Instances.{events}
use Rattle.rsml_meaning.specs.Chains.{is_external}
use Rattle.elaborate.specs.Machine.{GroundMachine}
use Rattle.elaborate.proofs.machine.Machine.external.Goals as goal

pub returns : goal.returns
returns c =
    subst (λ (s : Spec). (e : Instance) → slice_get (events s) c.args.event ≡ Some e → c.external.result ≡ is_external s e)
    (c.self.invariant.1 ∙ ap (λ (m : GroundMachine). m.base.spec) c.self.view_is) c.external.ensures
