use Rattle.std.proofs.Common.{length, sym, arith}
use Rattle.and_or_tables.specs.Cells.{holds}
use Rattle.and_or_tables.proofs.LanesLemmas.{group_none, group_some}
use Rattle.and_or_tables.proofs.lanes.any_holds.Goals as goal

pub returns-then-any_of_sixteen : goal.returns-then-any_of_sixteen
returns-then-any_of_sixteen c =
    sym (group_some (holds c.args.bits c.args.care.now c.args.want.now) 16 c.loop-at.at (length c.args.care.now) (omega arith) (sym c.if-any_of_sixteen.ensures))

pub loop-at-preserved : goal.loop-at-preserved
loop-at-preserved c = record {
  within = omega arith;
  none = group_none (holds c.args.bits c.args.care.now c.args.want.now) 16 c.loop-at.at c.loop-at.invariant.none (sym c.if-any_of_sixteen.ensures);
}
