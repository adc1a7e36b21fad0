use Rattle.std.proofs.Common.{ap, ◌∙◌, arith, ◌+ℤ◌, neg_ℤ, if◌then◌else◌, rules, w64, to_z, FitsSigned}
use Rattle.std.specs.Int.{w128}
use Rattle.std.proofs.lemmas.Int.{ints, to_z-of_z}
use Rattle.rsml_limits.proofs.SumLemmas.{sum_turn}
use Rattle.rsml_limits.proofs.comparisons.sums.constant_number.Goals as goal

pub loop-term-preserved : goal.loop-term-preserved
loop-term-preserved c =
    let fits : FitsSigned w64 c.in-Number.more = search rules in
    let number = to_z w128 c.loop-term.number-bits in (
      sum_turn c.args.terms.now c.loop-term.term-index c.term-item.result number c.in-Number.more _ _ c.loop-term-test.true c.term-item.is c.in-Number.is
          (omega (arith, ints)
          ∙ ap (λ n. number +ℤ n) c.signed-number.ensures.number
          ∙ ap (λ z. number +ℤ (if c.term-item.result.minus then neg_ℤ z else z)) (to_z-of_z w64 c.in-Number.more fits))
          c.loop-term.invariant.0,
      omega (arith, ints),
      omega (arith, ints),
    )
