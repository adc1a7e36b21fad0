use Rattle.and_or_tables.proofs.CountsLemmas.{counted_fits, counted_sums}
use Rattle.and_or_tables.proofs.counts.counted_lanes.Goals as goal

pub overflow_add-result : goal.overflow_add-result
overflow_add-result c = counted_fits 4 c.args.bits c.args.care c.args.want c.args.counts c.requires.care c.requires.want c.requires.room

pub returns : goal.returns
returns c = counted_sums 4 c.args.bits c.args.care c.args.want c.args.counts c.requires.care c.requires.want
