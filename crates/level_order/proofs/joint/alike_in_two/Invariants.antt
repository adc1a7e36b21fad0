use Rattle.std.proofs.Common.{All, length}
use Rattle.rsml_meaning.specs.Cells.{cells}
use Rattle.keyed_levels.specs.Keyed.{PhraseFits}
use Rattle.level_order.proofs.joint.alike_in_two.Given as goal

-- each comparison so far fits
abbrev pub invariant-loop-number : goal.invariant-loop-number
invariant-loop-number l = All (PhraseFits (length (cells l.two.spec))) l.beside.items
