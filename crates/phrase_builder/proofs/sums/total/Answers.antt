use Rattle.std.proofs.Common.{arith, w64, to_z}
use Rattle.std.proofs.lemmas.Int.{ints}
use Rattle.phrase_builder.specs.Constants.{IsNumber}
use Rattle.phrase_builder.proofs.Lists.{each_here}
use Rattle.phrase_builder.proofs.Totals.{total_turn}
use Rattle.phrase_builder.proofs.sums.total.Goals as goal

pub number_in-total-requires : goal.number_in-total-requires
number_in-total-requires c = each_here IsNumber c.args.terms.now c.loop-term.term-index _ c.requires.numbers c.loop-term-test.true

pub loop-term-preserved : goal.loop-term-preserved
loop-term-preserved c = record {
  is = total_turn c.args.terms.now c.loop-term.term-index _ (to_z w64 c.loop-term.total-bits) c.number_in-total.result _ c.loop-term-test.true (omega (arith, ints)) c.number_in-total.ensures.is c.loop-term.invariant.is;
  low = omega (arith, ints);
  high = omega (arith, ints);
}
