use Rattle.std.proofs.Common.{List, sym, subst}
use Rattle.rsml_syntax.specs.declared.syntax.Spec.{Spec}
use Rattle.ground_members.specs.declared.transitions.GroundTransition.{GroundTransition}
use Rattle.ground_members.specs.declared.send_cases.GroundSendCase.{GroundSendCase}
use Rattle.ground_members.specs.Members.{AreSendCases, AreTransitions}
use Rattle.checked_notes.proofs.chains.chains_of.Goals as goal

pub build-requires-clause-transitions : goal.build-requires-clause-transitions
build-requires-clause-transitions c =
    let m = c.args.machine.now in
    let of_machine = subst (λ (ts : List GroundTransition). AreTransitions m.base.phrases m.base.spec ts) (sym c.all_transitions.ensures) c.law.ensures.transitions_are in
    (m.base.phrases, subst (λ (s : Spec). AreTransitions m.base.phrases s c.all_transitions.result.now) c.requires of_machine)

pub build-requires-clause-send_cases : goal.build-requires-clause-send_cases
build-requires-clause-send_cases c =
    let m = c.args.machine.now in
    let of_machine = subst (λ (cs : List GroundSendCase). AreSendCases m.base.phrases m.base.spec cs) (sym c.all_send_cases.ensures) c.law.ensures.cases_are in
    (m.base.phrases, subst (λ (s : Spec). AreSendCases m.base.phrases s c.all_send_cases.result.now) c.requires of_machine)
