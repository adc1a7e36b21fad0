use Rattle.std.proofs.Common.{length, sym, arith}
use Rattle.and_or_tables.specs.Cells.{holds}
use Rattle.and_or_tables.proofs.LanesLemmas.{group_none, group_some}
use Rattle.and_or_tables.proofs.lanes.any_from_in_fours.Goals as goal

pub returns-then-any_of_four : goal.returns-then-any_of_four
returns-then-any_of_four c =
    sym (group_some (holds c.args.bits c.args.care.now c.args.want.now) 4 c.loop-at.at (length c.args.care.now) (omega arith) (sym c.if-any_of_four.ensures))

pub loop-at-preserved : goal.loop-at-preserved
loop-at-preserved c = record {
  within = omega arith;
  none = group_none (holds c.args.bits c.args.care.now c.args.want.now) 4 c.loop-at.at c.loop-at.invariant.none (sym c.if-any_of_four.ensures);
}
