use Rattle.std.proofs.Common.{◌≡◌, length}
use Rattle.settled_worlds.specs.Conflicts.{HoldWorlds}
use Rattle.settled_worlds.proofs.ranges.ranges.Given as goal

abbrev pub invariant-loop-cell : goal.invariant-loop-cell
invariant-loop-cell l = record {
  many : length l.ranges.items ≡ l.cell;
  hold : HoldWorlds l.levels l.ranges.items;
}
