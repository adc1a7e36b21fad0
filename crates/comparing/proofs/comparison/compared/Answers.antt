use Rattle.std.proofs.Common.{sym, subst, ◌∙◌}
use Rattle.std.specs.Prelude.{IfOk}
use Rattle.rsml_syntax.specs.declared.syntax.Spec.{Spec}
use Rattle.rsml_syntax.specs.limits.Checked.{IsChecked}
use Rattle.spec_frames.specs.Frames.{HaveSameFrame}
use Rattle.comparing.specs.Steps.{IsComparison}
use Rattle.comparing.proofs.comparison.compared.Goals as goal

pub same_frame-requires-clause-one : goal.same_frame-requires-clause-one
same_frame-requires-clause-one c = subst (λ (s : Spec). IsChecked s) (sym (c.names.ensures ∙ c.in_ok-first.ensures)) c.spec.ensures.checked

pub same_frame-requires-clause-two : goal.same_frame-requires-clause-two
same_frame-requires-clause-two c = subst (λ (s : Spec). IsChecked s) (sym (c.names-2.ensures ∙ c.in_ok-second.ensures)) c.spec-2.ensures.checked

pub of_one_frame-requires-clause-frame : goal.of_one_frame-requires-clause-frame
of_one_frame-requires-clause-frame c =
    subst (λ (s : Spec). HaveSameFrame s c.in_ok-second.second.base.spec) (c.names.ensures ∙ c.in_ok-first.ensures)
    (subst (λ (t : Spec). HaveSameFrame c.names.result.now t) c.names-2.ensures (c.same_frame.ensures.0 c.if-same_frame.true))

pub returns-then-same_frame : goal.returns-then-same_frame
returns-then-same_frame c = subst (λ (t : Spec). IfOk c.of_one_frame.result (IsComparison c.args.one.now t)) c.in_ok-second.ensures c.of_one_frame.ensures

pub returns : goal.returns
returns c = λ frame.
    let alike = subst (λ (s : Spec). HaveSameFrame s c.names-2.result.now) (sym (c.names.ensures ∙ c.in_ok-first.ensures))
    (subst (λ (t : Spec). HaveSameFrame c.args.one.now t) (sym (c.names-2.ensures ∙ c.in_ok-second.ensures)) frame) in
    let yes = c.same_frame.ensures.1 alike in
    let no = c.if-same_frame.false in
    absurd (cc (yes, no))
