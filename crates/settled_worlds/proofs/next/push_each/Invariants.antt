use Rattle.std.proofs.Common.{◌≡◌, length}
use Rattle.settled_worlds.proofs.next.push_each.Given as goal

abbrev pub invariant-loop-cell : goal.invariant-loop-cell
invariant-loop-cell l = length l.beside.items ≡ length l.fn.beside.items
