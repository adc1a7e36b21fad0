use Rattle.std.proofs.Common.{◌≡◌, arith, ℤ, ◌+ℤ◌, ◌*ℤ◌, w64, to_z, of_z, ap, ◌∙◌}
use Rattle.std.proofs.lemmas.Int.{ints}
use Rattle.linear_conflicts.specs.Rows.{terms_at}
use Rattle.linear_conflicts.specs.Steps.{combination}
use Rattle.linear_conflicts.proofs.CombinationLemmas.{term_added, terms_whole}
use Rattle.linear_conflicts.proofs.combination.add_terms.Goals as goal

pub loop-term-preserved : goal.loop-term-preserved
loop-term-preserved c v =
    term_added v c.args.terms.now c.loop-term.term-index _ _ (combination v c.loop-term.factors 0) (combination v c.add_term.new.factors 0) _
    c.loop-term-test.true (c.in_ok-add_term.ensures v) (c.loop-term.invariant v)

pub returns : goal.returns
returns c v =
    let same : to_z w64 (of_z w64 c.args.weight) ≡ c.args.weight = omega (arith, ints, c.ranges.weight.sfits) in
    terms_whole v c.args.terms.now c.loop-term.term-index _ _ _ (omega (arith, c.loop-term-test.false)) (c.loop-term.invariant v)
    ∙ ap (λ (w : ℤ). combination v c.args.factors.now 0 +ℤ w *ℤ terms_at v c.args.terms.now) same
