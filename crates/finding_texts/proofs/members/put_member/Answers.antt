use Rattle.std.proofs.Common.{ℕ, sym, ap, ◌∙◌, subst, slice_get}
use Rattle.rsml_syntax.specs.declared.syntax.Spec.{Spec}
use Rattle.rsml_meaning.specs.Transitions.{transitions}
use Rattle.rsml_meaning.specs.Texts.{Text, case_label}
use Rattle.ground_members.specs.Members.{TransitionIs}
use Rattle.ground_groups.specs.declared.group.Member.{Member}
use Rattle.ground_groups.specs.Groups.{MemberIs}
use Rattle.text_writer.specs.Writes.{Writes}
use Rattle.text_writer.proofs.WritingLemmas.{alike}
use Rattle.finding_texts.proofs.EnabledLemmas.{transition_below, send_case_below}
use Rattle.finding_texts.proofs.Labels.{transition_is, send_case_ordinal, of_transition, of_send_case, of_function_case}
use Rattle.finding_texts.proofs.members.put_member.Goals as goal

pub transition-requires : goal.transition-requires
transition-requires g c =
    let m = c.args.machine.now in
    let x = c.requires in
    transition_below m c.law.ensures c.in-Transition.number x.0 (subst (λ (y : Member). MemberIs m.base.spec x.0 y) c.in-Transition.is x.1)

pub send_case-requires : goal.send_case-requires
send_case-requires g c =
    let m = c.args.machine.now in
    let x = c.requires in
    send_case_below m c.law.ensures c.in-SendCase.number x.0 (subst (λ (y : Member). MemberIs m.base.spec x.0 y) c.in-SendCase.is x.1)

pub returns-in-Transition : goal.returns-in-Transition
returns-in-Transition g c = λ x is.
    let m = c.args.machine.now in
    let k = c.in-Transition.number in
    let written = λ (t : Text). Writes (g.W.Writer.state c.args.writer.now) (g.W.Writer.text c.args.writer.now) t (g.W.Writer.state c.put_label.new.writer) (g.W.Writer.text c.put_label.new.writer) in
    of_transition written m.base.spec k
    (λ t at. c.put_label.ensures m.base.phrases t k (ap (λ (s : Spec). slice_get (transitions s) k) c.tree.ensures ∙ at)
    (subst (λ (s : Spec). TransitionIs m.base.phrases s t c.transition.result.now) (sym c.tree.ensures) (transition_is m c.law.ensures k t c.transition.result.now at c.transition.ensures)))
    x (subst (λ (y : Member). MemberIs m.base.spec x y) c.in-Transition.is is)

pub returns-in-SendCase : goal.returns-in-SendCase
returns-in-SendCase g c = λ x is.
    let m = c.args.machine.now in
    let k = c.in-SendCase.number in
    let written = λ (t : Text). Writes (g.W.Writer.state c.args.writer.now) (g.W.Writer.text c.args.writer.now) t (g.W.Writer.state c.put_case_label.new.writer) (g.W.Writer.text c.put_case_label.new.writer) in
    of_send_case written m.base.spec k
    (λ t at. alike (ap (λ (n : ℕ). case_label n) (c.ordinal.ensures ∙ send_case_ordinal m c.law.ensures k t c.send_case.result.now at c.send_case.ensures)) c.put_case_label.ensures)
    x (subst (λ (y : Member). MemberIs m.base.spec x y) c.in-SendCase.is is)

pub returns-in-FunctionCase : goal.returns-in-FunctionCase
returns-in-FunctionCase g c = λ x is.
    let s = c.args.machine.now.base.spec in
    let written = λ (t : Text). Writes (g.W.Writer.state c.args.writer.now) (g.W.Writer.text c.args.writer.now) t (g.W.Writer.state c.put_case_at.new.writer) (g.W.Writer.text c.put_case_at.new.writer) in
    of_function_case written s c.in-FunctionCase.function c.in-FunctionCase.place c.put_case_at.ensures x (subst (λ (y : Member). MemberIs s x y) c.in-FunctionCase.is is)
