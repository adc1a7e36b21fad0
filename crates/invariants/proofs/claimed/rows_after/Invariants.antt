use Rattle.std.proofs.Common.{take}
use Rattle.guard_encode.specs.Encoding.{Keeps}
use Rattle.invariants.specs.Told.{TellRows, active_after}
use Rattle.invariants.proofs.claimed.rows_after.Given as goal

-- a handle for each of the first rows
abbrev pub invariant-loop-row : goal.invariant-loop-row
invariant-loop-row l = record {
  keeps : Keeps l.fn.encoder l.encoder;
  told : TellRows l.machine.base.spec l.encoder (active_after l.machine l.moves) (take l.row-index l.rows) l.found.items;
}
