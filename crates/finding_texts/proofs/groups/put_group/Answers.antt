use Rattle.std.proofs.Common.{◌<◌, length, sym, ap, ◌∙◌, subst, slice_get}
use Rattle.rsml_syntax.specs.declared.syntax.Spec.{Spec}
use Rattle.rsml_meaning.specs.Groups.{groups}
use Rattle.ground_groups.specs.Groups.{KindIs}
use Rattle.text_writer.proofs.WritingLemmas.{alike}
use Rattle.finding_texts.specs.Numbers.{kind_text}
use Rattle.finding_texts.proofs.KindTexts.{kind_is}
use Rattle.finding_texts.proofs.groups.put_group.Goals as goal

pub kind-kind-requires : goal.kind-kind-requires
kind-kind-requires g c = subst (λ (t : Spec). c.args.group < length (groups t)) (sym c.groups.ensures) c.requires.group

pub returns : goal.returns
returns g c = λ x at.
    let kind = c.kind-kind.result in
    let is = c.kind-kind.ensures x (ap (λ (t : Spec). slice_get (groups t) c.args.group) c.groups.ensures ∙ at) in
    alike (ap (λ (t : Spec). kind_text t kind) c.requires.texts ∙ kind_is c.args.machine.now.base.spec x kind (subst (λ (t : Spec). KindIs t x kind) c.groups.ensures is)) c.put_kind.ensures
