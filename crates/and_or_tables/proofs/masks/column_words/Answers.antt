use Rattle.and_or_tables.specs.Cells.{cares, wants}
use Rattle.and_or_tables.proofs.Masked.{word_room}
use Rattle.and_or_tables.proofs.masks.column_words.Goals as goal

pub with_lowest-care-requires : goal.with_lowest-care-requires
with_lowest-care-requires c =
    rw c.loop-k.invariant.cared (word_room cares c.args.rows.now c.args.place c.loop-k.k c.requires.few c.loop-k-test.true)

pub with_lowest-want-requires : goal.with_lowest-want-requires
with_lowest-want-requires c =
    rw c.loop-k.invariant.wanted (word_room wants c.args.rows.now c.args.place c.loop-k.k c.requires.few c.loop-k-test.true)
