use Rattle.std.proofs.Common.{◌≡◌, ◌+◌, length}
use Rattle.guard_encode.specs.Encoding.{Keeps}
use Rattle.gap_tables.specs.Widening.{AreLaterCells}
use Rattle.gap_tables.proofs.later.later_cells.Given as goal

-- those of so many cells
abbrev pub invariant-loop-done : goal.invariant-loop-done
invariant-loop-done l = record {
  keeps : Keeps l.fn.encoder l.encoder;
  many : length l.later.items ≡ l.done + 1;
  are : AreLaterCells l.encoder l.read l.world l.later.items;
}
