use Rattle.std.proofs.Common.{◌≡◌, ◌+◌, length}
use Rattle.guard_encode.specs.Encoding.{Keeps}
use Rattle.gap_tables.specs.Widening.{AreLaterChildren}
use Rattle.gap_tables.proofs.later.later_children.Given as goal

-- those of so many components
abbrev pub invariant-loop-done : goal.invariant-loop-done
invariant-loop-done l = record {
  keeps : Keeps l.fn.encoder l.encoder;
  many : length l.later.items ≡ l.done + 1;
  are : AreLaterChildren l.encoder l.read l.world l.later.items;
}
