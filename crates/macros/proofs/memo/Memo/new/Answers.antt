use Rattle.std.proofs.Common.{◌≡◌, ◌<◌, ℕ, List, Bool, None, length, sym, ap, ◌∙◌, subst, replicate, false, rules}
use Rattle.std.specs.List.{All}
use Rattle.macros.proofs.Marks.{noted_none, all_zero, many_replicated}
use Rattle.macros.proofs.memo.Memo.new.Goals as goal

pub returns : goal.returns
returns c =
    let n = c.args.count in
    let ts : c.in_ok-truths.truths ≡ replicate n false = c.in_ok-truths.ensures in
    let ms : c.in_ok-marks.marks.items ≡ replicate n 0 = search rules in
    noted_none 1 c.in_ok-truths.truths c.in_ok-marks.marks.items
    (ap (λ (xs : List Bool). length xs) ts ∙ many_replicated n false ∙ sym (many_replicated n 0) ∙ ap (λ (xs : List ℕ). length xs) (sym ms))
    (subst (λ (xs : List ℕ). All (λ m. m < 1) xs) (sym ms) (all_zero n 0))
    ∙ ap (λ k. replicate k None) (ap (λ (xs : List Bool). length xs) ts ∙ many_replicated n false)
