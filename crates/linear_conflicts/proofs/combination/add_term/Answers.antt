use Rattle.std.proofs.Common.{◌≡◌, ℤ, ◌+ℤ◌, ◌*ℤ◌, arith, to_z, of_z, w64, ap, ◌∙◌}
use Rattle.std.proofs.lemmas.Int.{ints}
use Rattle.linear_conflicts.specs.Steps.{combination}
use Rattle.linear_conflicts.proofs.CombinationLemmas.{some_by}
use Rattle.linear_conflicts.proofs.ProductLemmas.{product_is, times_times}
use Rattle.linear_conflicts.proofs.combination.add_term.Goals as goal

pub returns : goal.returns
returns c =
    let weight : to_z w64 (of_z w64 c.args.weight) ≡ c.args.weight = omega (arith, ints) in
    let factor : to_z w64 (of_z w64 c.args.term.now.factor) ≡ c.args.term.now.factor = omega (arith, ints) in
    let more : to_z w64 (of_z w64 c.in_ok-more.more) ≡ c.in_ok-more.more = omega (arith, ints) in
    let product = product_is c.args.weight c.args.term.now.factor c.in_ok-more.more _ _ weight factor c.in_ok-more.ensures.1 in
    some_by c.add.result _ _ c.add.ensures
    (λ told v. told v ∙ ap (λ (m : ℤ). combination v c.args.factors.now 0 +ℤ m *ℤ v c.args.term.now.variable) (more ∙ product)
    ∙ ap (λ (m : ℤ). combination v c.args.factors.now 0 +ℤ m) (times_times c.args.weight c.args.term.now.factor (v c.args.term.now.variable)))
