use Rattle.std.proofs.Common.{◌≡◌, ◌<◌, ◌≤◌, List, [], ◌∷◌, ◌++◌, length, sym, ap, ◌∙◌, append_assoc, SFits, w64, ℕ, subst, ℤ, Some, slice_get, rules, arith}
use Rattle.std.proofs.lemmas.Int.{to_z-of_z}
use Rattle.rsml_meaning.specs.Cells.{cells}
use Rattle.state_tree.proofs.Lists.{within_get}
use Rattle.group_verdicts.specs.Narrowing.{lows}
use Rattle.group_verdicts.proofs.LowBlocks.{lows_more}
use Rattle.group_verdicts.proofs.blocks.push_lows.Goals as goal

pub loop-place-preserved : goal.loop-place-preserved
loop-place-preserved c =
    let s = c.args.worlds.now in
    let xs = c.args.numbers.now in
    let n = c.loop-place.place in
    let order : length xs ≤ n = omega arith in
    let less : n < length (cells s) = omega arith in
    let there = within_get (cells s) n less in
    let fits : SFits w64 c.low.result = search rules in
    let low = to_z-of_z w64 c.low.result fits ∙ c.low.ensures there.0 (subst (λ (k : ℕ). slice_get (cells s) k ≡ Some there.0) (sym c.in_ok-cell_number.ensures) there.1) in
    c.in_ok-push.ensures.ok
    ∙ (λ i. c.loop-place.invariant i ++ low i ∷ [])
    ∙ append_assoc xs (lows s (length xs) n) (there.0.numbers.low ∷ [])
    ∙ ap (λ (ys : List ℤ). xs ++ ys) (sym (lows_more s (length xs) n there.0 order less there.1))
