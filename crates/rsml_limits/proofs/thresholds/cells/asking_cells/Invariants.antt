use Rattle.std.proofs.Common.{map, take}
use Rattle.rsml_syntax.specs.limits.Comparisons.{same_cell}
use Rattle.rsml_limits.specs.comparisons.Shown.{shown_cell}
use Rattle.rsml_limits.specs.thresholds.Edges as spec
use Rattle.rsml_limits.specs.thresholds.Pairs.{SameMembers}
use Rattle.rsml_limits.specs.thresholds.Shown.{shown_right}
use Rattle.rsml_limits.proofs.thresholds.cells.asking_cells.Given as goal

abbrev pub invariant-loop-right : goal.invariant-loop-right
invariant-loop-right l = SameMembers same_cell (map shown_cell l.cells.keys) (spec.asking_cells l.edge (map shown_right (take l.right-index l.rights)))
