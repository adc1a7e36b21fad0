use Rattle.std.proofs.Common.{get_or, arith}
use Rattle.and_or_tables.specs.Cells.{holds}
use Rattle.and_or_tables.proofs.CountsLemmas.{block_more, block_last}
use Rattle.and_or_tables.proofs.counts.count_all_holds.Goals as goal

pub loop-at-preserved : goal.loop-at-preserved
loop-at-preserved c = record {
  within = omega arith;
  counted = λ k within. block_more (λ word. holds word c.args.care.now c.args.want.now k) c.args.words.now c.loop-at.at 1024
      (get_or c.loop-at.counts k 0) (get_or c.count_block.new.counts k 0) (get_or c.args.counts.now k 0)
      (c.loop-at.invariant.counted k within) (c.count_block.ensures k within);
}

pub returns : goal.returns
returns c k within =
    block_last (λ word. holds word c.args.care.now c.args.want.now k) c.args.words.now c.loop-at.at
    (get_or c.loop-at.counts k 0) (get_or c.count_block-2.new.counts k 0) (get_or c.args.counts.now k 0)
    (c.loop-at.invariant.counted k within) (c.count_block-2.ensures k within)
