use Rattle.std.proofs.Common.{◌≡◌, ◌+◌, ◌-◌, ◌∙◌, ℕ, List, ◌∷◌, ◌++◌, [], length, Some, slice_get, sym, ap, subst, arith, rules}
use Rattle.std.proofs.lemmas.List.{length_push}
use Rattle.rsml_meaning.specs.Worlds.{IsWorld}
use Rattle.guard_encode.proofs.StepLemmas.{keeps_on}
use Rattle.group_verdicts.proofs.Keeping.{on_new}
use Rattle.gap_tables.specs.Widening.{AreLaterCells, FindsLater}
use Rattle.gap_tables.proofs.LaterParts.{all_later, cells_on, first_later, more_later}
use Rattle.gap_tables.proofs.later.later_cells.Goals as goal

pub loop-done-init : goal.loop-done-init
loop-done-init c =
    let a = c.args.encoder.now in
    let read = c.args.read.now in
    let w = c.args.world.now in
    let pushed : c.push.new.self.items ≡ c.constant.result ∷ [] = c.in_ok-push.ensures.items ∙ ap (λ (zs : List ℕ). zs ++ c.constant.result ∷ []) c.new-later.ensures.items in
    let n : length w.cells ≡ length w.cells - 0 = omega arith in
    record {
      keeps = search rules;
      many = ap length pushed;
      are = subst (λ (zs : List ℕ). AreLaterCells a read w zs) (sym pushed)
          (first_later (λ k r. FindsLater a read w (length w.choices) (length w.cells - k) r) c.constant.result
          (subst (λ m. FindsLater a read w (length w.choices) m c.constant.result) n (all_later a read w c.constant.result c.constant.ensures)));
    }

pub with_number-requires-clause-world : goal.with_number-requires-clause-world
with_number-requires-clause-world c = on_new (λ s. IsWorld s c.args.world.now) c.args.encoder.now c.loop-done.encoder c.loop-done.invariant.keeps c.requires

pub with_number-requires-clause-after : goal.with_number-requires-clause-after
with_number-requires-clause-after c =
    let read = c.args.read.now in
    let w = c.args.world.now in
    let e = c.loop-done.encoder in
    let there = subst (λ (zs : List ℕ). slice_get zs c.loop-done.done ≡ Some c.later_at-last.result) c.as_slice.ensures.value c.later_at-last.ensures in
    let at = c.loop-done.invariant.are c.loop-done.done c.later_at-last.result there in
    let n : length w.cells - c.loop-done.done ≡ (length w.cells - 1 - c.loop-done.done) + 1 = omega (arith, c.loop-done-test.true, c.len-cells.ensures) in
    subst (λ m. FindsLater e read w (length w.choices) ((m - 1 - c.loop-done.done) + 1) c.later_at-last.result) (sym c.len-cells.ensures)
    (subst (λ m. FindsLater e read w (length w.choices) m c.later_at-last.result) n at)

pub loop-done-preserved : goal.loop-done-preserved
loop-done-preserved c =
    let a = c.args.encoder.now in
    let b = c.loop-done.encoder in
    let d = c.with_number.new.encoder in
    let read = c.args.read.now in
    let w = c.args.world.now in
    let before = c.loop-done.invariant in
    let later = c.loop-done.later.items in
    let n : length w.cells - 1 - c.loop-done.done ≡ length w.cells - length later = omega (arith, before.many, c.loop-done-test.true) in
    let here : FindsLater d read w (length w.choices) (length w.cells - length later) c.in_ok-after.after = subst (λ m. FindsLater d read w (length w.choices) m c.in_ok-after.after) n
    (subst (λ m. FindsLater d read w (length w.choices) (m - 1 - c.loop-done.done) c.in_ok-after.after) c.len-cells.ensures c.in_ok-after.ensures.answer) in
    record {
      keeps = keeps_on a b d before.keeps c.in_ok-after.ensures.keeps;
      many = ap length c.in_ok-push-2.ensures.items ∙ length_push later c.in_ok-after.after ∙ ap (λ k. k + 1) before.many;
      are = subst (λ (zs : List ℕ). AreLaterCells d read w zs) (sym c.in_ok-push-2.ensures.items)
          (more_later (λ k r. FindsLater d read w (length w.choices) (length w.cells - k) r) later c.in_ok-after.after (cells_on b d read w later c.in_ok-after.ensures.keeps before.are) here);
    }
