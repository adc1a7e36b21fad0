use Rattle.std.proofs.Common.{◌≡◌, ◌+◌, ◌-◌, ◌∙◌, ℕ, List, ◌∷◌, ◌++◌, [], length, Some, slice_get, sym, ap, subst, arith, rules}
use Rattle.std.proofs.lemmas.List.{length_push}
use Rattle.rsml_meaning.specs.Worlds.{IsWorld}
use Rattle.guard_encode.proofs.StepLemmas.{keeps_on}
use Rattle.group_verdicts.proofs.Keeping.{on_new}
use Rattle.gap_tables.specs.Widening.{AreLaterChildren, FindsLater}
use Rattle.gap_tables.proofs.LaterParts.{children_on, first_later, more_later}
use Rattle.gap_tables.proofs.later.later_children.Goals as goal

pub loop-done-init : goal.loop-done-init
loop-done-init c =
    let a = c.args.encoder.now in
    let read = c.args.read.now in
    let w = c.args.world.now in
    let n : length w.choices ≡ length w.choices - 0 = omega arith in
    let pushed : c.push.new.self.items ≡ c.args.first ∷ [] = c.in_ok-push.ensures.items ∙ ap (λ (zs : List ℕ). zs ++ c.args.first ∷ []) c.new-later.ensures.items in
    record {
      keeps = search rules;
      many = ap length pushed;
      are = subst (λ (zs : List ℕ). AreLaterChildren a read w zs) (sym pushed)
          (first_later (λ k r. FindsLater a read w (length w.choices - k) 0 r) c.args.first (subst (λ m. FindsLater a read w m 0 c.args.first) n c.requires.first));
    }

pub with_child-requires-clause-world : goal.with_child-requires-clause-world
with_child-requires-clause-world c = on_new (λ s. IsWorld s c.args.world.now) c.args.encoder.now c.loop-done.encoder c.loop-done.invariant.keeps c.requires.world

pub with_child-requires-clause-after : goal.with_child-requires-clause-after
with_child-requires-clause-after c =
    let read = c.args.read.now in
    let w = c.args.world.now in
    let e = c.loop-done.encoder in
    let there = subst (λ (zs : List ℕ). slice_get zs c.loop-done.done ≡ Some c.later_at-last.result) c.as_slice.ensures.value c.later_at-last.ensures in
    let at = c.loop-done.invariant.are c.loop-done.done c.later_at-last.result there in
    let n : length w.choices - c.loop-done.done ≡ (length w.choices - 1 - c.loop-done.done) + 1 = omega (arith, c.loop-done-test.true, c.len-components.ensures) in
    subst (λ m. FindsLater e read w ((m - 1 - c.loop-done.done) + 1) 0 c.later_at-last.result) (sym c.len-components.ensures)
    (subst (λ m. FindsLater e read w m 0 c.later_at-last.result) n at)

pub loop-done-preserved : goal.loop-done-preserved
loop-done-preserved c =
    let a = c.args.encoder.now in
    let b = c.loop-done.encoder in
    let d = c.with_child.new.encoder in
    let read = c.args.read.now in
    let w = c.args.world.now in
    let before = c.loop-done.invariant in
    let later = c.loop-done.later.items in
    let n : length w.choices - 1 - c.loop-done.done ≡ length w.choices - length later = omega (arith, before.many, c.loop-done-test.true) in
    let here : FindsLater d read w (length w.choices - length later) 0 c.in_ok-after.after = subst (λ m. FindsLater d read w m 0 c.in_ok-after.after) n
    (subst (λ m. FindsLater d read w (m - 1 - c.loop-done.done) 0 c.in_ok-after.after) c.len-components.ensures c.in_ok-after.ensures.answer) in
    record {
      keeps = keeps_on a b d before.keeps c.in_ok-after.ensures.keeps;
      many = ap length c.in_ok-push-2.ensures.items ∙ length_push later c.in_ok-after.after ∙ ap (λ k. k + 1) before.many;
      are = subst (λ (zs : List ℕ). AreLaterChildren d read w zs) (sym c.in_ok-push-2.ensures.items)
          (more_later (λ k r. FindsLater d read w (length w.choices - k) 0 r) later c.in_ok-after.after (children_on b d read w later c.in_ok-after.ensures.keeps before.are) here);
    }
