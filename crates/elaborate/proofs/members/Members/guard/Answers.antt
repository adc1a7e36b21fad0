use Rattle.std.proofs.Common.{◌≡◌, ◌<◌, map, length, Some, slice_get, sym, subst}
use Rattle.macros.specs.Guards.{GuardBelow}
use Rattle.ground_members.specs.declared.transitions.GroundTransition.{GroundTransition}
use Rattle.elaborate.specs.Machine.{GroundMachine}
use Rattle.elaborate.proofs.MemberLemmas.{guard_at, transition_guards_below}
use Rattle.elaborate.proofs.members.Members.guard.Goals as goal

pub returns-clause-is : goal.returns-clause-is
returns-clause-is c =
    let x = c.self.inside in
    let l = subst (λ (z : GroundMachine). c.args.transition < length z.transitions) (sym c.self.view_is) c.requires in
    subst (λ (z : GroundMachine). slice_get (map (λ y. y.guard) z.transitions) c.args.transition ≡ Some c.fast_guard.result.now) c.self.view_is
    (guard_at GroundTransition (λ z. z.guard) (length x.macros.phrases) x.transitions.items c.args.transition c.index.result.now c.fast_guard.result.now
    (transition_guards_below x.macros.phrases x.macros.spec x.transitions.items c.self.invariant.stands.transitions_are) l c.index.ensures c.fast_guard.ensures).0

pub returns-clause-below : goal.returns-clause-below
returns-clause-below c =
    let x = c.self.inside in
    let l = subst (λ (z : GroundMachine). c.args.transition < length z.transitions) (sym c.self.view_is) c.requires in
    subst (λ (z : GroundMachine). GuardBelow (length z.base.phrases) c.fast_guard.result.now) c.self.view_is
    (guard_at GroundTransition (λ z. z.guard) (length x.macros.phrases) x.transitions.items c.args.transition c.index.result.now c.fast_guard.result.now
    (transition_guards_below x.macros.phrases x.macros.spec x.transitions.items c.self.invariant.stands.transitions_are) l c.index.ensures c.fast_guard.ensures).1
