use Rattle.std.proofs.Common.{sym}
use Rattle.and_or_tables.proofs.Columns.{column_stops}
use Rattle.and_or_tables.proofs.ground.column_is_true.Goals as goal

pub returns-then-not-row_is_allowed : goal.returns-then-not-row_is_allowed
returns-then-not-row_is_allowed c =
    sym (column_stops _ _ _ _ _ c.loop-row-test.true c.row-item.is (sym c.if-not-row_is_allowed.ensures))
