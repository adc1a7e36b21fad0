use Rattle.std.proofs.Common.{sym, arith}
use Rattle.and_or_tables.proofs.Columns.{true_of_ground, false_of_ground}
use Rattle.and_or_tables.proofs.ground.GroundTable.truth.Goals as goal

pub returns-then-column_is_true : goal.returns-then-column_is_true
returns-then-column_is_true c =
    sym (true_of_ground c.args.truths.now c.args.self.now c.as_slice-rows.result.now c.loop-place.place c.as_slice-rows.ensures (omega arith) (sym c.if-column_is_true.ensures))

pub returns : goal.returns
returns c =
    sym (false_of_ground c.args.truths.now c.args.self.now c.as_slice-rows.result.now c.column_count-place-end.result c.loop-place.place c.as_slice-rows.ensures c.column_count-place-end.ensures c.loop-place.auto.place-end c.loop-place-test.false c.loop-place.invariant)
