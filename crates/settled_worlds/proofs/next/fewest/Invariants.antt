use Rattle.std.proofs.Common.{◌≡◌, ◌<◌, false, IfSome}
use Rattle.settled_worlds.specs.Steps.{is_kept}
use Rattle.settled_worlds.proofs.next.fewest.Given as goal

abbrev pub invariant-loop-cell : goal.invariant-loop-cell
invariant-loop-cell l = IfSome l.best (λ cell. (cell < l.cells) × (is_kept l.kept cell ≡ false))
