use Rattle.std.proofs.Common.{length, sym, ap, ◌∙◌, subst}
use Rattle.std.specs.Option.{option_copied}
use Rattle.std.proofs.lemmas.Result.{IfOk-weaker}
use Rattle.rsml_ground.specs.Rests.{GuardFits}
use Rattle.rsml_ground.specs.Truths.{guard_truth}
use Rattle.bdd_core.specs.Calls.{Represents}
use Rattle.phrase_diagrams.specs.Diagrams.{truths_at}
use Rattle.ground_groups.specs.declared.group.Member.{Member}
use Rattle.ground_groups.specs.declared.group.Member.TheVariants as members
use Rattle.guard_encode.specs.Encoding.{IsMember}
use Rattle.guard_encode.specs.Others.{enabled_by}
use Rattle.guard_encode.proofs.MemberLemmas.{function_there, send_case_fits, send_case_there, transition_there}
use Rattle.guard_encode.proofs.OtherLemmas.{case_fits, sending_shown}
use Rattle.guard_encode.proofs.enabled.enabled_by.Goals as goal

pub transition-requires-clause-number : goal.transition-requires-clause-number
transition-requires-clause-number c =
    let m = c.args.machine.now in
    let is : IsMember m (members.Transition c.in-Transition.number) = subst (λ (x : Member). IsMember m x) c.in-Transition.is c.requires.member in
    transition_there m c.in-Transition.number c.law.ensures is.0 is.1

pub send_case-case-requires : goal.send_case-case-requires
send_case-case-requires c =
    let m = c.args.machine.now in
    let is : IsMember m (members.SendCase c.in-SendCase.number) = subst (λ (x : Member). IsMember m x) c.in-SendCase.is c.requires.member in
    send_case_there m c.in-SendCase.number c.law.ensures is.0 is.1

pub case_guard-requires : goal.case_guard-requires
case_guard-requires c =
    let m = c.args.machine.now in
    let is : IsMember m (members.FunctionCase c.in-FunctionCase.function c.in-FunctionCase.place) = subst (λ (x : Member). IsMember m x) c.in-FunctionCase.is c.requires.member in
    function_there m c.in-FunctionCase.function c.in-FunctionCase.place c.law.ensures is.0 is.1

pub guard-requires-clause-guard : goal.guard-requires-clause-guard
guard-requires-clause-guard c =
    let m = c.args.machine.now in
    subst (λ n. GuardFits n c.guard-tested.result.now) (sym c.requires.many)
    (subst (GuardFits (length m.base.phrases)) (sym c.guard-tested.ensures) (send_case_fits m c.in-SendCase.number c.send_case-case.result.now c.law.ensures c.send_case-case.ensures))

pub guard-requires-in-Some-clause-guard : goal.guard-requires-in-Some-clause-guard
guard-requires-in-Some-clause-guard c =
    let m = c.args.machine.now in
    subst (λ n. GuardFits n c.in-Some.tested.now) (sym c.requires.many)
    (case_fits m c.in-FunctionCase.function c.in-FunctionCase.place c.in-Some.tested.now c.law.ensures (sym c.case_guard.ensures ∙ ap option_copied c.in-Some.is))

pub returns-in-Transition-clause-answer : goal.returns-in-Transition-clause-answer
returns-in-Transition-clause-answer c =
    let old = c.args.arena.now in
    let m = c.args.machine.now in
    IfOk-weaker c.transition.result (Represents c.transition.new.arena (λ v. enabled_by m (truths_at old c.args.active.now v) (truths_at old c.args.phrases.now v) (members.Transition c.in-Transition.number))) _
    (λ r h. subst (λ (x : Member). Represents c.transition.new.arena (λ v. enabled_by m (truths_at old c.args.active.now v) (truths_at old c.args.phrases.now v) x) r) (sym c.in-Transition.is) h)
    c.transition.ensures.answer

pub returns-in-SendCase-clause-answer : goal.returns-in-SendCase-clause-answer
returns-in-SendCase-clause-answer c =
    let old = c.args.arena.now in
    IfOk-weaker c.guard.result (Represents c.guard.new.arena (λ v. guard_truth (truths_at old c.args.phrases.now v) c.guard-tested.result.now)) _
    (λ r h. sending_shown c.args.machine.now old c.guard.new.arena c.args.active.now c.args.phrases.now c.in-SendCase.number r c.args.member c.send_case-case.result.now c.guard-tested.result.now c.in-SendCase.is
    c.send_case-case.ensures c.guard-tested.ensures h)
    c.guard.ensures.answer
