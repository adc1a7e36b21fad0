use Rattle.std.proofs.Common.{◌≡◌, length}
use Rattle.settled_worlds.proofs.next.beside.Given as goal

abbrev pub invariant-loop-place : goal.invariant-loop-place
invariant-loop-place l = length l.beside.items ≡ l.cells
