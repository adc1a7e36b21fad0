use Rattle.std.proofs.Common.{◌≡◌, ◌&&◌, length, Some, slice_get, sym, subst, arith}
use Rattle.std.proofs.lemmas.Result.{IfOk-weaker}
use Rattle.rsml_ground.specs.Rests.{GuardFits}
use Rattle.state_tree.proofs.Lists.{get_item}
use Rattle.bdd_core.specs.Diagram.{IsRef, meaning}
use Rattle.bdd_core.specs.Calls.{Represents}
use Rattle.guard_encode.proofs.MemberLemmas.{source_there, transition_fits}
use Rattle.guard_encode.proofs.OtherLemmas.{transition_shown}
use Rattle.guard_encode.proofs.enabled.transition.Goals as goal

pub bounds-active-source : goal.bounds-active-source
bounds-active-source c =
    let there = source_there c.args.machine.now c.args.number c.transition-transition.result.now c.law.ensures c.transition-transition.ensures in
    omega (arith, there, c.source-source.ensures, c.requires.states)

pub guard-requires-clause-guard : goal.guard-requires-clause-guard
guard-requires-clause-guard c =
    let m = c.args.machine.now in
    subst (λ n. GuardFits n c.guard-tested.result.now) (sym c.requires.many)
    (subst (GuardFits (length m.base.phrases)) (sym c.guard-tested.ensures) (transition_fits m c.args.number c.transition-transition.result.now c.law.ensures c.transition-transition.ensures))

pub and-requires-clause-f_ref : goal.and-requires-clause-f_ref
and-requires-clause-f_ref c =
    let fs = c.args.active.now in
    let here = c.index-active-source.result in
    let there = source_there c.args.machine.now c.args.number c.transition-transition.result.now c.law.ensures c.transition-transition.ensures in
    let is : IsRef c.args.arena.now here =
    subst (IsRef c.args.arena.now) (sym c.index-active-source.is) (c.requires.active c.source-source.result here (omega (arith, there, c.source-source.ensures, c.requires.states))) in
    omega (arith, is, c.in_ok-truth.ensures.keeps.longer)

pub returns-clause-answer : goal.returns-clause-answer
returns-clause-answer c =
    let m = c.args.machine.now in
    let old = c.args.arena.now in
    let mid = c.guard.new.arena in
    let source = c.source-source.result in
    let here = c.index-active-source.result in
    let truth = c.in_ok-truth.truth in
    let x = c.transition-transition.result.now in
    let there = source_there m c.args.number x c.law.ensures c.transition-transition.ensures in
    let at : slice_get c.args.active.now source ≡ Some here = get_item c.args.active.now source here (omega (arith, there, c.source-source.ensures, c.requires.states)) c.index-active-source.is in
    IfOk-weaker c.and.result (Represents c.and.new.self (λ v. meaning mid here v && meaning mid truth v)) _
    (λ r h. transition_shown m old mid c.and.new.self c.args.active.now c.args.phrases.now c.args.number source here truth r x c.guard-tested.result.now c.transition-transition.ensures c.source-source.ensures
    c.guard-tested.ensures at c.requires.active c.in_ok-truth.ensures.keeps c.in_ok-truth.ensures.answer h)
    c.and.ensures.answer
