use Rattle.and_or_tables.proofs.FastLemmas.{gathered_room}
use Rattle.and_or_tables.proofs.fast.gathered.Goals as goal

pub with_lowest-bits-requires : goal.with_lowest-bits-requires
with_lowest-bits-requires c =
    rw c.loop-k.invariant.gathered (gathered_room c.args.truths.now c.args.phrases.now c.loop-k.k c.requires.few c.loop-k-test.true)
