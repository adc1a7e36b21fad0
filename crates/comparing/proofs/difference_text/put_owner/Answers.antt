use Rattle.std.proofs.Common.{sym, ap, ◌∙◌, subst, slice_get}
use Rattle.rsml_syntax.specs.declared.syntax.Spec.{Spec}
use Rattle.rsml_meaning.specs.Interfaces.{sends}
use Rattle.rsml_meaning.specs.Texts.{Text}
use Rattle.ground_groups.specs.declared.group.Member.{Member}
use Rattle.ground_groups.specs.declared.group.Member.TheVariants as member
use Rattle.ground_groups.specs.Groups.{MemberIs}
use Rattle.text_writer.specs.Writes.{Writes}
use Rattle.text_writer.proofs.WritingLemmas.{alike, followed, still}
use Rattle.finding_texts.proofs.EnabledLemmas.{send_case_below}
use Rattle.comparing.proofs.TextLemmas.{of_transition, of_send_case, of_function_case, send_is, name_is}
use Rattle.comparing.proofs.difference_text.put_owner.Goals as goal

pub send_case-requires : goal.send_case-requires
send_case-requires g c =
    let m = c.args.machine.now in
    let x = c.requires.member in
    send_case_below m c.law.ensures c.in-SendCase.number x.0 (subst (λ (y : Member). MemberIs m.base.spec x.0 y) c.in-SendCase.is x.1)

pub returns-in-Transition : goal.returns-in-Transition
returns-in-Transition g c = λ m is.
    let s = c.args.machine.now.base.spec in
    let written = λ (t : Text). Writes (g.W.Writer.state c.args.writer.now) (g.W.Writer.text c.args.writer.now) t (g.W.Writer.state c.args.writer.now) (g.W.Writer.text c.args.writer.now) in
    of_transition written s _ (still (g.W.Writer.state c.args.writer.now) (g.W.Writer.text c.args.writer.now)) m (subst (λ (y : Member). MemberIs s m y) c.in-Transition.is is)

pub returns-in-SendCase : goal.returns-in-SendCase
returns-in-SendCase g c = λ m is.
    let machine = c.args.machine.now in
    let s = machine.base.spec in
    let k = c.in-SendCase.number in
    let written = λ (t : Text). Writes (g.W.Writer.state c.args.writer.now) (g.W.Writer.text c.args.writer.now) t (g.W.Writer.state c.put-in-SendCase.new.self) (g.W.Writer.text c.put-in-SendCase.new.self) in
    of_send_case written s k
    (λ x at.
    let there = ap (λ (t : Spec). slice_get (sends t) c.send.result) c.requires.texts ∙ ap (slice_get (sends s)) c.send.ensures ∙ send_is machine c.law.ensures k x c.send_case.result.now at c.send_case.ensures in
    followed c.put.ensures (followed (alike (name_is (sends c.args.texts.now) c.send.result x.send there) c.put_send.ensures) c.put-in-SendCase.ensures))
    m (subst (λ (y : Member). MemberIs s m y) c.in-SendCase.is is)

pub returns-in-FunctionCase : goal.returns-in-FunctionCase
returns-in-FunctionCase g c = λ m is.
    let s = c.args.texts.now in
    let written = λ (t : Text). Writes (g.W.Writer.state c.args.writer.now) (g.W.Writer.text c.args.writer.now) t (g.W.Writer.state c.put-in-FunctionCase-2.new.self) (g.W.Writer.text c.put-in-FunctionCase-2.new.self) in
    of_function_case written s c.in-FunctionCase.function c.in-FunctionCase.place
    (followed c.put-in-FunctionCase.ensures (followed c.put_function.ensures c.put-in-FunctionCase-2.ensures))
    m (subst (λ (t : Spec). MemberIs t m (member.FunctionCase c.in-FunctionCase.function c.in-FunctionCase.place)) (sym c.requires.texts) (subst (λ (y : Member). MemberIs c.args.machine.now.base.spec m y) c.in-FunctionCase.is is))
