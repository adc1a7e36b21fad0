use Rattle.std.proofs.Common.{◌≡◌, map, take}
use Rattle.worlds.proofs.first.first_numbers.Given as goal

abbrev pub invariant-loop-cell : goal.invariant-loop-cell
invariant-loop-cell l = l.numbers ≡ map (λ cell. cell.initial) (take l.cell-index l.ends)
