use Rattle.std.proofs.Common.{◌≡◌, ℕ, arith, ℤ, ◌+ℤ◌, ◌*ℤ◌, ◌≤ℤ◌, ap, ◌∙◌, to_z, of_z, w64}
use Rattle.std.proofs.lemmas.Int.{ints}
use Rattle.linear_conflicts.specs.Rows.{terms_at, Meets}
use Rattle.linear_conflicts.specs.Steps.{combination}
use Rattle.linear_conflicts.proofs.CombinationLemmas.{row_added, some_is}
use Rattle.linear_conflicts.proofs.ProductLemmas.{product_is}
use Rattle.linear_conflicts.proofs.combination.add_row.Goals as goal

pub returns : goal.returns
returns c =
    let weight : to_z w64 (of_z w64 c.args.weight) ≡ c.args.weight = omega (arith, ints) in
    let most : to_z w64 (of_z w64 c.args.row.now.most) ≡ c.args.row.now.most = omega (arith, ints) in
    let product = product_is c.args.weight c.args.row.now.most c.in_ok-more.more _ _ weight most c.in_ok-more.ensures.1 in
    some_is c.checked_add.result _ _ (λ more. (v : ℕ → ℤ) → Meets v c.args.row.now → (combination v c.add_terms.new.factors 0 +ℤ c.args.most) ≤ℤ (combination v c.args.factors.now 0 +ℤ more))
    c.checked_add.ensures
    (λ v met. row_added c.args.weight (combination v c.args.factors.now 0) (combination v c.add_terms.new.factors 0) (terms_at v c.args.row.now.terms.items) c.args.most _ c.args.row.now.most
    (omega (arith, ints)) met
    (c.in_ok-add_terms.ensures v ∙ ap (λ (w : ℤ). combination v c.args.factors.now 0 +ℤ w *ℤ terms_at v c.as_slice.result.now) weight ∙ ap (λ ts. combination v c.args.factors.now 0 +ℤ c.args.weight *ℤ terms_at v ts) c.as_slice.ensures.value)
    (omega (arith, ints, product)))
