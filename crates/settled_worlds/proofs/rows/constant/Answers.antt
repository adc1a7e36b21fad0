use Rattle.std.proofs.Common.{◌≡◌, ◌≤◌, ◌<◌, ◌≤ℤ◌, ◌+ℤ◌, ℤ, List, [], length, ap, ◌∙◌, arith, true, false, int_le, pos, neg_ℤ, w64, to_z, of_z, get_or}
use Rattle.std.specs.Cmp.{first_so, second_so}
use Rattle.std.proofs.lemmas.Int.{ints}
use Rattle.rsml_ground.specs.declared.sums.GroundTerm.{GroundTerm}
use Rattle.rsml_ground.specs.declared.sums.GroundOperand.TheVariants as operands
use Rattle.rsml_ground.specs.Truths.{term_number}
use Rattle.settled_worlds.proofs.RowLemmas.{constant_more}
use Rattle.settled_worlds.proofs.rows.constant.Goals as goal

at_least : (a b : ℤ) → int_le a b ≡ true → a ≤ℤ b
at_least a b h = grind (arith, ints)

pub loop-term-preserved : goal.loop-term-preserved
loop-term-preserved c =
    let n = c.signed_number-total.result in
    let low : neg_ℤ (pos 1000000000) ≤ℤ n = at_least (neg_ℤ (pos 1000000000)) n (first_so (int_le (neg_ℤ (pos 1000000000)) n) (int_le n (pos 1000000000)) c.signed_number-total.ensures.small) in
    let high : n ≤ℤ pos 1000000000 = at_least n (pos 1000000000) (second_so (int_le (neg_ℤ (pos 1000000000)) n) (int_le n (pos 1000000000)) c.signed_number-total.ensures.small) in
    let many : length c.as_slice-term-items.result.now ≡ length c.args.sum.now.terms = ap (λ (ts : List GroundTerm). length ts) c.as_slice-term-items.ensures in
    let few : length c.as_slice-term-items.result.now ≤ 8 = omega (arith, many, c.requires.few) in
    let total = to_z w64 c.loop-term.total-bits in
    let within : c.loop-term.term-index < length c.args.sum.now.terms = omega (arith, many, c.loop-term-test.true) in
    let added : to_z w64 (of_z w64 (total +ℤ to_z w64 (of_z w64 n))) ≡ total +ℤ n = omega (arith, ints) in
    record {
      whole = constant_more c.args.sum.now.terms c.loop-term.term-index _ total (to_z w64 (of_z w64 (total +ℤ to_z w64 (of_z w64 n)))) _ within
          (added ∙ ap (λ z. total +ℤ z) (c.signed_number-total.ensures.number
          ∙ ap (λ (ts : List GroundTerm). term_number [] (get_or ts c.loop-term.term-index (record { minus = false; operand = operands.Number (pos 0) }))) c.as_slice-term-items.ensures))
          c.loop-term.invariant.whole;
      low = omega (arith, ints);
      high = omega (arith, ints);
    }
