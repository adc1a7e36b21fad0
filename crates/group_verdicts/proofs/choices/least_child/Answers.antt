use Rattle.std.proofs.Common.{◌≡◌, ℕ, ◌<◌, Bool, ◌==◌, Option, Some, length, sym, ◌∙◌, subst, slice_get, arith}
use Rattle.rsml_syntax.specs.declared.syntax.Spec.{Spec}
use Rattle.rsml_syntax.specs.declared.world.World.{World}
use Rattle.rsml_meaning.specs.Instances.{components}
use Rattle.state_tree.proofs.Lists.{within_get}
use Rattle.guard_encode.proofs.StepLemmas.{keeps_on}
use Rattle.group_verdicts.specs.Finding.{FindsPassing}
use Rattle.group_verdicts.proofs.Keeping.{spec_of}
use Rattle.group_verdicts.proofs.ChildSteps.{place_in, none_at, least_at, no_child_left}
use Rattle.group_verdicts.proofs.LowSteps.{child_read, child_unread}
use Rattle.group_verdicts.proofs.choices.least_child.Goals as goal

pub returns-then-not-is_read-clause-answer : goal.returns-then-not-is_read-clause-answer
returns-then-not-is_read-clause-answer c =
    let a = c.args.encoder.now in
    let there = within_get (components a.machine.base.spec) c.args.component c.requires.component in
    child_unread a c.args.read.now there.0 c.args.component c.args.f there.1 (sym c.is_read.ensures ∙ c.if-not-is_read.true)

pub returns-in-Some-clause-answer : goal.returns-in-Some-clause-answer
returns-in-Some-clause-answer c =
    let a = c.args.encoder.now in
    let b = c.loop-place.encoder in
    let d = c.with_child.new.encoder in
    let test : World → Bool = λ w. place_in c.args.component w == c.loop-place.place in
    child_read a d c.args.read.now c.args.component c.loop-place.place c.args.f c.in-Some.rest (keeps_on a b d c.loop-place.invariant.keeps c.in_ok-rest.ensures.keeps)
    (sym c.is_read.ensures ∙ c.if-not-is_read.false)
    (least_at a b d c.args.component c.loop-place.place c.args.f c.in-Some.rest c.loop-place.invariant.keeps c.in_ok-rest.ensures.keeps c.loop-place.invariant.none
    (subst (λ (found : Option ℕ). FindsPassing b d test c.args.f found) c.in-Some.is c.in_ok-rest.ensures.answer))

pub loop-place-preserved : goal.loop-place-preserved
loop-place-preserved c =
    let a = c.args.encoder.now in
    let b = c.loop-place.encoder in
    let d = c.with_child.new.encoder in
    let test : World → Bool = λ w. place_in c.args.component w == c.loop-place.place in
    record {
      keeps = keeps_on a b d c.loop-place.invariant.keeps c.in_ok-rest.ensures.keeps;
      none = none_at a b d c.args.component c.loop-place.place c.args.f c.loop-place.invariant.keeps c.in_ok-rest.ensures.keeps c.loop-place.invariant.none
          (subst (λ (found : Option ℕ). FindsPassing b d test c.args.f found) c.in_default.is c.in_ok-rest.ensures.answer);
    }

pub returns-clause-answer : goal.returns-clause-answer
returns-clause-answer c =
    let a = c.args.encoder.now in
    let s = c.tree.result.now in
    let own : s ≡ a.machine.base.spec = spec_of a c.machine.result.now s c.tree.ensures c.machine.ensures in
    let there = within_get (components s) c.args.component (subst (λ (t : Spec). c.args.component < length (components t)) (sym own) c.requires.component) in
    let many = c.children-children.ensures there.0 there.1 in
    child_read a c.loop-place.encoder c.args.read.now c.args.component 0 c.args.f c.args.f c.loop-place.invariant.keeps (sym c.is_read.ensures ∙ c.if-not-is_read.false)
    (no_child_left a c.loop-place.encoder there.0 c.args.component c.loop-place.place 0 c.args.f c.args.f
    (subst (λ (t : Spec). slice_get (components t) c.args.component ≡ Some there.0) own there.1) (omega (arith, many)) c.loop-place.invariant.none)
