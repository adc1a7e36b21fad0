use Rattle.std.proofs.Common.{◌≡◌, ◌++◌, map, replicate}
use Rattle.worlds.specs.Ends.{written}
use Rattle.worlds.proofs.ends.add_input.Given as goal

abbrev pub invariant-loop-turn : goal.invariant-loop-turn
invariant-loop-turn l = map written l.cells.items ≡ map written l.fn.cells.items ++ replicate l._turn (written l.ends)
