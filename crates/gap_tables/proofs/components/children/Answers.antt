use Rattle.std.proofs.Common.{◌≡◌, ◌<◌, ◌+◌, ◌-◌, ◌∙◌, ℕ, suc, List, Option, length, sym, ap, subst, arith, rules}
use Rattle.std.proofs.lemmas.List.{length_push}
use Rattle.rsml_meaning.specs.Instances.{components}
use Rattle.rsml_meaning.specs.Worlds.{IsWorld}
use Rattle.guard_encode.proofs.StepLemmas.{keeps_on}
use Rattle.group_verdicts.proofs.Keeping.{on_new, ref_on}
use Rattle.group_verdicts.proofs.Parts.{many_choices}
use Rattle.gap_tables.specs.Widening.{ChildrenFound, FindsLater}
use Rattle.gap_tables.proofs.ColumnLists.{children_more, children_none}
use Rattle.gap_tables.proofs.components.children.Goals as goal

pub loop-place-init : goal.loop-place-init
loop-place-init c = record {
  keeps = search rules;
  inside_ref = c.constant-inside.ensures.is_ref;
  many = search rules;
  found = subst (λ (zs : List (Option ℕ)). ChildrenFound c.args.encoder.now c.args.encoder.now c.args.read.now c.args.world.now c.args.others zs c.constant-inside.result) (sym c.new-children.ensures)
      (children_none c.args.encoder.now c.args.read.now c.args.world.now c.args.others c.constant-inside.result c.requires.world c.constant-inside.ensures);
}

pub next_child-requires-clause-component : goal.next_child-requires-clause-component
next_child-requires-clause-component c =
    let a = c.args.encoder.now in
    let all = many_choices a.machine.base.spec c.args.world.now c.requires.world in
    let here = c.in_ok-component.ensures in
    let less : c.in_ok-component.component < length (components a.machine.base.spec) = omega (arith, all, here, c.loop-place-test.true, c.len-components.ensures) in
    on_new (λ s. c.in_ok-component.component < length (components s)) a c.loop-place.encoder c.loop-place.invariant.keeps less

pub next_child-requires-clause-world : goal.next_child-requires-clause-world
next_child-requires-clause-world c = on_new (λ s. IsWorld s c.args.world.now) c.args.encoder.now c.loop-place.encoder c.loop-place.invariant.keeps c.requires.world

pub next_child-requires-clause-after_ref : goal.next_child-requires-clause-after_ref
next_child-requires-clause-after_ref c =
    ref_on c.args.encoder.now c.loop-place.encoder c.later_at-after.result c.loop-place.invariant.keeps (c.requires.later _ c.later_at-after.result c.later_at-after.ensures).finds.is_ref

pub next_child-requires-clause-others_ref : goal.next_child-requires-clause-others_ref
next_child-requires-clause-others_ref c = ref_on c.args.encoder.now c.loop-place.encoder c.args.others c.loop-place.invariant.keeps c.requires.others_ref

pub loop-place-preserved : goal.loop-place-preserved
loop-place-preserved c =
    let a = c.args.encoder.now in
    let b = c.loop-place.encoder in
    let d = c.next_child.new.encoder in
    let read = c.args.read.now in
    let w = c.args.world.now in
    let before = c.loop-place.invariant in
    let cs = c.loop-place.children in
    let component = c.in_ok-component.component in
    let here = c.in_ok-component.ensures in
    let at = c.requires.later _ c.later_at-after.result c.later_at-after.ensures in
    let n : length w.choices - (length w.choices - 1 - c.loop-place.place) ≡ suc component = omega (arith, here, c.loop-place-test.true, c.len-components.ensures) in
    let later : FindsLater a read w (suc component) 0 c.later_at-after.result = subst (λ m. FindsLater a read w m 0 c.later_at-after.result) n
    (subst (λ m. FindsLater a read w (length w.choices - (m - 1 - c.loop-place.place)) 0 c.later_at-after.result) c.len-components.ensures at) in
    record {
      keeps = keeps_on a b d before.keeps c.in_ok-child.ensures.keeps;
      inside_ref = c.in_ok-child.ensures.is_ref;
      many = ap length c.in_ok-push.ensures.ok ∙ length_push cs c.in_ok-child.child ∙ ap (λ k. k + 1) before.many;
      found = subst (λ (zs : List (Option ℕ)). ChildrenFound a d read w c.args.others zs c.in_ok-child.narrowed) (sym c.in_ok-push.ensures.ok)
          (children_more a b d read w c.args.others cs component c.later_at-after.result c.loop-place.inside c.in_ok-child.child c.in_ok-child.narrowed before.keeps (before.many ∙ sym here) later before.found
          c.in_ok-child.ensures.answer);
    }
