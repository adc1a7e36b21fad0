use Rattle.std.proofs.Common.{sym}
use Rattle.rsml_ground.specs.Truths.{is_active}
use Rattle.ground_claims.proofs.Columns.{column_stops, column_more}
use Rattle.ground_claims.proofs.claim.column_is_true.Goals as goal

pub loop-row-preserved : goal.loop-row-preserved
loop-row-preserved c =
    column_more (is_active c.args.tree.now c.args.world.now) c.args.rows.now c.args.column c.loop-row.row-index c.row-item.result
    c.loop-row-test.true c.row-item.is c.loop-row.invariant (sym c.if-not-is_allowed.ensures)

pub returns-then-not-is_allowed : goal.returns-then-not-is_allowed
returns-then-not-is_allowed c =
    sym (column_stops (is_active c.args.tree.now c.args.world.now) c.args.rows.now c.args.column c.loop-row.row-index c.row-item.result
    c.loop-row-test.true c.row-item.is (sym c.if-not-is_allowed.ensures))
