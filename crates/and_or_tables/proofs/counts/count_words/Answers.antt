use Rattle.std.proofs.Common.{ℕ, Bool, eqb, arith}
use Rattle.std.specs.Simd.Lanes.{sum_l}
use Rattle.std.specs.Int.Bits.{bit_and}
use Rattle.and_or_tables.proofs.CountsLemmas.{hits_so_far}
use Rattle.and_or_tables.proofs.counts.count_words.Goals as goal

pub loop-at-preserved : goal.loop-at-preserved
loop-at-preserved c =
    let hits : ℕ → Bool = λ word. eqb (bit_and word c.args.care) c.args.want in
    record {
      within = omega arith;
      lanes = c.more_hits-sums.ensures.lanes;
      counted = hits_so_far hits c.args.words.now c.loop-at.at 4 (sum_l c.loop-at.sums) (sum_l c.more_hits-sums.result) c.loop-at.invariant.counted c.more_hits-sums.ensures.counted;
    }
