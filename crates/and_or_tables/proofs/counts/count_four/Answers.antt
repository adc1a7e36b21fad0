use Rattle.std.proofs.Common.{arith}
use Rattle.std.proofs.lemmas.Simd.{get_or-put_chunk_below, get_or-put_chunk_above}
use Rattle.and_or_tables.proofs.CountsLemmas.{room_in_chunk, counted_place, length_counted}
use Rattle.and_or_tables.proofs.counts.count_four.Goals as goal

pub counted_lanes-sums-requires-clause-room : goal.counted_lanes-sums-requires-clause-room
counted_lanes-sums-requires-clause-room c = room_in_chunk c.args.counts.now c.args.at 4 c.requires.counts c.requires.room

pub returns-clause-below : goal.returns-clause-below
returns-clause-below c k less = get_or-put_chunk_below c.args.at c.args.counts.now c.counted_lanes-sums.result k 0 less

pub returns-clause-counted : goal.returns-clause-counted
returns-clause-counted c k low high =
    counted_place c.args.bits c.args.care.now c.args.want.now c.args.counts.now c.counted_lanes-sums.result c.args.at 4 k
    c.requires.care c.requires.want c.requires.counts c.counted_lanes-sums.ensures low high

pub returns-clause-above : goal.returns-clause-above
returns-clause-above c k low =
    let long = length_counted c.args.bits c.args.care.now c.args.want.now c.args.counts.now c.counted_lanes-sums.result c.args.at 4
    c.requires.care c.requires.want c.requires.counts c.counted_lanes-sums.ensures in
    get_or-put_chunk_above c.args.at c.args.counts.now c.counted_lanes-sums.result k 0 (omega arith)
