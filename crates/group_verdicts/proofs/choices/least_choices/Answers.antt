use Rattle.std.proofs.Common.{◌≡◌, ℕ, ◌+◌, ◌<◌, List, length, take, sym, ap, ◌∙◌, subst, arith}
use Rattle.std.specs.Cmp.Lexicographic.{slice_cmp}
use Rattle.std.specs.Ordering.{nat_cmp}
use Rattle.std.proofs.lemmas.List.{length_push}
use Rattle.rsml_syntax.specs.declared.syntax.Spec.{Spec}
use Rattle.rsml_meaning.specs.Instances.{components}
use Rattle.guard_encode.proofs.StepLemmas.{keeps_on}
use Rattle.group_verdicts.specs.Finding.{NarrowedLow}
use Rattle.group_verdicts.proofs.Keeping.{spec_of}
use Rattle.group_verdicts.proofs.ListSteps.{narrowed_more, narrowed_all}
use Rattle.group_verdicts.proofs.Parts.{many_choices}
use Rattle.group_verdicts.proofs.choices.least_choices.Goals as goal

pub loop-component-preserved : goal.loop-component-preserved
loop-component-preserved c =
    let a = c.args.encoder.now in
    let b = c.loop-component.encoder in
    let d = c.least_child.new.encoder in
    let before = c.loop-component.invariant in
    let xs = c.loop-component.choices in
    let n = c.loop-component.component in
    let s = a.machine.base.spec in
    let many : c.components-component-end.result ≡ length (components s) =
    c.components-component-end.ensures ∙ ap (λ (t : Spec). length (components t)) (spec_of a c.machine.result.now c.tree-tree.result.now c.tree-tree.ensures c.machine.ensures) in
    let less : n < length (components s) = omega (arith, many, c.loop-component-test.true) in
    record {
      keeps = keeps_on a b d before.keeps c.in_ok-place.ensures.keeps;
      is_ref = c.in_ok-place.ensures.is_ref;
      many = ap length c.in_ok-push.ensures.ok ∙ length_push xs c.in_ok-place.place ∙ ap (λ k. k + 1) before.many;
      narrowed = subst (λ (ys : List ℕ). NarrowedLow a d c.args.read.now (slice_cmp nat_cmp) (λ w. take (n + 1) w.choices) ys c.args.f c.in_ok-place.next) (sym c.in_ok-push.ensures.ok)
          (narrowed_more a b d c.args.read.now nat_cmp (λ w. w.choices) 0 n (length (components s)) (many_choices s) before.keeps c.in_ok-place.ensures.keeps less xs before.many c.in_ok-place.place c.args.f
          c.loop-component.rest c.in_ok-place.next before.narrowed c.in_ok-place.ensures.answer);
    }

pub returns-clause-answer : goal.returns-clause-answer
returns-clause-answer c =
    let a = c.args.encoder.now in
    let n = c.loop-component.component in
    let s = a.machine.base.spec in
    let many : c.components-component-end.result ≡ length (components s) =
    c.components-component-end.ensures ∙ ap (λ (t : Spec). length (components t)) (spec_of a c.machine.result.now c.tree-tree.result.now c.tree-tree.ensures c.machine.ensures) in
    narrowed_all a c.loop-component.encoder c.args.read.now nat_cmp (λ w. w.choices) n (length (components s)) (omega (arith, many)) (many_choices s) c.loop-component.invariant.keeps c.loop-component.choices c.args.f
    c.loop-component.rest c.loop-component.invariant.narrowed
