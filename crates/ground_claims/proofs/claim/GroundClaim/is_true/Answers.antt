use Rattle.std.proofs.Common.{sym, arith}
use Rattle.rsml_ground.specs.Truths.{is_active}
use Rattle.ground_claims.proofs.Columns.{true_of_columns, false_of_columns}
use Rattle.ground_claims.proofs.claim.GroundClaim.is_true.Goals as goal

pub returns-then-column_is_true : goal.returns-then-column_is_true
returns-then-column_is_true c =
    sym (true_of_columns (is_active c.args.tree.now c.args.world.now) c.args.self.now c.as_slice-rows.result.now c.columns-column-end.result c.loop-column.column
    c.as_slice-rows.ensures (c.columns-column-end.ensures (is_active c.args.tree.now c.args.world.now)) (omega arith) (sym c.if-column_is_true.ensures))

pub returns : goal.returns
returns c =
    sym (false_of_columns (is_active c.args.tree.now c.args.world.now) c.args.self.now c.as_slice-rows.result.now c.columns-column-end.result c.loop-column.column
    c.as_slice-rows.ensures (c.columns-column-end.ensures (is_active c.args.tree.now c.args.world.now)) c.loop-column.auto.column-end c.loop-column-test.false c.loop-column.invariant)
