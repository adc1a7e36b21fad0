use Rattle.std.proofs.Common.{◌≡◌, ◌++◌, [], true, false, ℤ, ◌+ℤ◌, ◌-ℤ◌, ap, ◌∙◌, arith, w64, to_z, of_z}
use Rattle.std.proofs.lemmas.Int.{ints}
use Rattle.linear_conflicts.specs.declared.row.Row.{Row}
use Rattle.rsml_ground.specs.Truths.{sum_number}
use Rattle.settled_worlds.specs.Conflicts.{sum_terms}
use Rattle.settled_worlds.proofs.RowLemmas.{is_row}
use Rattle.settled_worlds.proofs.rows.row_of.Goals as goal

pub returns : goal.returns
returns c =
    let p = c.constant.result in
    let q = c.constant-2.result in
    let most : ℤ = to_z w64 (of_z w64 (to_z w64 (of_z w64 (to_z w64 (of_z w64 c.args.margin) +ℤ to_z w64 (of_z w64 p))) -ℤ to_z w64 (of_z w64 q))) in
    let row : Row = record { terms = c.push_sum-2.new.terms; most = most } in
    let is : most ≡ (c.args.margin +ℤ p) -ℤ q =
    omega (arith, ints, c.requires.small.least, c.requires.small.most, c.constant.ensures.small.least, c.constant.ensures.small.most, c.constant-2.ensures.small.least, c.constant-2.ensures.small.most) in
    is_row c.args.first.now c.args.second.now c.args.margin row
    (c.in_ok-push_sum-2.ensures ∙ ap (λ xs. xs ++ sum_terms true c.args.second.now)
    (c.in_ok-push_sum.ensures ∙ ap (λ xs. xs ++ sum_terms false c.args.first.now) c.new-terms.ensures.items))
    (is ∙ ap (λ z. (c.args.margin +ℤ z) -ℤ q) c.constant.ensures.number ∙ ap (λ z. (c.args.margin +ℤ sum_number [] c.args.second.now) -ℤ z) c.constant-2.ensures.number)
