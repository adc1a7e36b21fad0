use Rattle.std.proofs.Common.{subst}
use Rattle.ground_groups.specs.declared.group.Member.{Member}
use Rattle.ground_groups.specs.Groups.{MemberIs}
use Rattle.finding_texts.proofs.EnabledLemmas.{transition_below, send_case_below, function_below}
use Rattle.finding_texts.proofs.enabled.is_enabled.Goals as goal

pub is_transition_enabled-requires-clause-transition : goal.is_transition_enabled-requires-clause-transition
is_transition_enabled-requires-clause-transition c =
    let m = c.args.machine.now in
    let x = c.requires.member in
    transition_below m c.law.ensures c.in-Transition.number x.0 (subst (λ (y : Member). MemberIs m.base.spec x.0 y) c.in-Transition.is x.1)

pub is_send_case_enabled-requires-clause-case : goal.is_send_case_enabled-requires-clause-case
is_send_case_enabled-requires-clause-case c =
    let m = c.args.machine.now in
    let x = c.requires.member in
    send_case_below m c.law.ensures c.in-SendCase.number x.0 (subst (λ (y : Member). MemberIs m.base.spec x.0 y) c.in-SendCase.is x.1)

pub is_function_case_enabled-requires-clause-function : goal.is_function_case_enabled-requires-clause-function
is_function_case_enabled-requires-clause-function c =
    let m = c.args.machine.now in
    let x = c.requires.member in
    function_below m c.law.ensures c.in-FunctionCase.function c.in-FunctionCase.place x.0 (subst (λ (y : Member). MemberIs m.base.spec x.0 y) c.in-FunctionCase.is x.1)
