use Rattle.std.proofs.Common.{◌≡◌, ◌<◌, map, length, Some, slice_get, sym, subst}
use Rattle.macros.specs.Guards.{GuardBelow}
use Rattle.ground_members.specs.declared.send_cases.GroundSendCase.{GroundSendCase}
use Rattle.elaborate.specs.Machine.{GroundMachine}
use Rattle.elaborate.proofs.MemberLemmas.{guard_at, case_guards_below}
use Rattle.elaborate.proofs.members.Members.case_guard.Goals as goal

pub returns-clause-is : goal.returns-clause-is
returns-clause-is c =
    let x = c.self.inside in
    let l = subst (λ (z : GroundMachine). c.args.case < length z.send_cases) (sym c.self.view_is) c.requires in
    subst (λ (z : GroundMachine). slice_get (map (λ y. y.guard) z.send_cases) c.args.case ≡ Some c.fast_guard.result.now) c.self.view_is
    (guard_at GroundSendCase (λ z. z.guard) (length x.macros.phrases) x.send_cases.items c.args.case c.index.result.now c.fast_guard.result.now
    (case_guards_below x.macros.phrases x.macros.spec x.send_cases.items c.self.invariant.stands.cases_are) l c.index.ensures c.fast_guard.ensures).0

pub returns-clause-below : goal.returns-clause-below
returns-clause-below c =
    let x = c.self.inside in
    let l = subst (λ (z : GroundMachine). c.args.case < length z.send_cases) (sym c.self.view_is) c.requires in
    subst (λ (z : GroundMachine). GuardBelow (length z.base.phrases) c.fast_guard.result.now) c.self.view_is
    (guard_at GroundSendCase (λ z. z.guard) (length x.macros.phrases) x.send_cases.items c.args.case c.index.result.now c.fast_guard.result.now
    (case_guards_below x.macros.phrases x.macros.spec x.send_cases.items c.self.invariant.stands.cases_are) l c.index.ensures c.fast_guard.ensures).1
