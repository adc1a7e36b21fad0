use Rattle.std.proofs.Common.{◌≡◌, ◌≤◌, ◌<◌, ◌+ℤ◌, List, length, ap, ◌∙◌, arith, false, pos, w64, to_z, of_z, get_or}
use Rattle.std.proofs.lemmas.Int.{ints}
use Rattle.rsml_ground.specs.declared.sums.GroundTerm.{GroundTerm}
use Rattle.rsml_ground.specs.declared.sums.GroundOperand.TheVariants as operands
use Rattle.phrase_diagrams.specs.Terms.{term_base}
use Rattle.phrase_diagrams.proofs.BaseLemmas.{base_more}
use Rattle.phrase_diagrams.proofs.bases.sum_base.Goals as goal

pub loop-term-preserved : goal.loop-term-preserved
loop-term-preserved c =
    let n = c.term_base-total.result in
    let many : length c.as_slice-term-items.result.now ≡ length c.args.sum.now.terms = ap (λ (ts : List GroundTerm). length ts) c.as_slice-term-items.ensures in
    let few : length c.as_slice-term-items.result.now ≤ 8 = omega (arith, many, c.requires.few) in
    let total = to_z w64 c.loop-term.total-bits in
    let within : c.loop-term.term-index < length c.args.sum.now.terms = omega (arith, many, c.loop-term-test.true) in
    let added : to_z w64 (of_z w64 (total +ℤ to_z w64 (of_z w64 n))) ≡ total +ℤ n = omega (arith, ints) in
    record {
      whole = base_more c.args.layout.now.spec c.args.sum.now.terms c.loop-term.term-index _ total (to_z w64 (of_z w64 (total +ℤ to_z w64 (of_z w64 n)))) _ within
          (added ∙ ap (λ z. total +ℤ z) (c.term_base-total.ensures.number
          ∙ ap (λ (ts : List GroundTerm). term_base c.args.layout.now.spec (get_or ts c.loop-term.term-index (record { minus = false; operand = operands.Number (pos 0) }))) c.as_slice-term-items.ensures))
          c.loop-term.invariant.whole;
      low = omega (arith, ints);
      high = omega (arith, ints);
    }
