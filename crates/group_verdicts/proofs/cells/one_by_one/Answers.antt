use Rattle.std.proofs.Common.{◌≡◌, ℕ, ◌+◌, ◌<◌, List, [], ◌∷◌, ◌++◌, length, sym, ap, ◌∙◌, subst, ℤ, pos, slice_index_or, SFits, w64, rules, arith}
use Rattle.std.specs.Ordering.{int_cmp}
use Rattle.std.proofs.lemmas.Int.{to_z-of_z}
use Rattle.std.proofs.lemmas.List.{length_push}
use Rattle.rsml_meaning.specs.Cells.{cells}
use Rattle.guard_encode.proofs.StepLemmas.{keeps_on}
use Rattle.group_verdicts.specs.Finding.{NarrowedLow, NarrowedOn}
use Rattle.group_verdicts.proofs.BlockSteps.{on_both, on_one}
use Rattle.group_verdicts.proofs.Keeping.{on_new}
use Rattle.group_verdicts.proofs.cells.one_by_one.Goals as goal

pub loop-place-preserved : goal.loop-place-preserved
loop-place-preserved c =
    let a = c.args.encoder.now in
    let b = c.loop-place.encoder in
    let d = c.least_number.new.encoder in
    let before = c.loop-place.invariant in
    let xs = c.loop-place.numbers in
    let n = c.loop-place.place in
    let number = c.in_ok-number.number in
    let less : n < length (cells a.machine.base.spec) = omega arith in
    let fits : SFits w64 number = search rules in
    let pushed : c.push.new.self ≡ xs ++ number ∷ [] = c.in_ok-push.ensures.ok ∙ ap (λ z. xs ++ z ∷ []) (to_z-of_z w64 number fits) in
    record {
      keeps = keeps_on a b d before.keeps c.in_ok-number.ensures.keeps;
      is_ref = c.in_ok-number.ensures.is_ref;
      many = ap length pushed ∙ length_push xs number ∙ ap (λ k. k + 1) before.many;
      on = subst (λ (ys : List ℤ). NarrowedOn a d c.args.read.now c.args.numbers.now ys c.args.f c.in_ok-number.next) (sym pushed)
          (on_both a b d c.args.read.now c.args.numbers.now xs (xs ++ number ∷ []) c.args.f c.loop-place.rest c.in_ok-number.next before.keeps before.on
          (on_one b d c.args.read.now xs n number c.loop-place.rest c.in_ok-number.next c.in_ok-number.ensures.keeps before.many
          (on_new (λ s. n < length (cells s)) a b before.keeps less)
          (subst (λ (k : ℕ). NarrowedLow b d c.args.read.now int_cmp (λ w. slice_index_or w.cells k (pos 0)) number c.loop-place.rest c.in_ok-number.next) c.in_ok-cell_number.ensures c.in_ok-number.ensures.answer)));
    }
