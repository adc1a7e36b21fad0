use Rattle.std.proofs.Common.{length, arith}
use Rattle.std.proofs.lemmas.Int.{ints}
use Rattle.linear_conflicts.proofs.RowLemmas.{row_met, within_more}
use Rattle.linear_conflicts.proofs.combination.combined.Goals as goal

pub loop-multiplier-preserved : goal.loop-multiplier-preserved
loop-multiplier-preserved c =
    let rows = c.args.rows.now in
    let within = c.in_ok-row.ensures.lookup.3.0 in
    record {
      met = λ v all. omega (
        arith,
        ints,
        c.loop-multiplier.invariant.met v all,
        c.in_ok-most.ensures v
            (row_met v rows c.args.multipliers.now c.loop-multiplier.multiplier-index _ c.in_ok-row.row.now all c.loop-multiplier-test.true within c.in_ok-row.ensures.lookup.1),
      );
      within = λ k e less. within_more (length rows) c.args.multipliers.now c.loop-multiplier.multiplier-index k e _ c.loop-multiplier.invariant.within
          c.loop-multiplier-test.true within less;
    }
