use Rattle.std.proofs.Common.{length, sym, eq-eqb}
use Rattle.and_or_tables.specs.Cells.{holds}
use Rattle.and_or_tables.proofs.Columns.{some_below}
use Rattle.and_or_tables.proofs.lanes.any_from.Goals as goal

pub returns-then-bits-care : goal.returns-then-bits-care
returns-then-bits-care c =
    sym (some_below (holds c.args.bits c.args.care.now c.args.want.now) (length c.args.care.now) c.loop-place.place c.loop-place-test.true (eq-eqb _ _ c.if-bits-care.true))
