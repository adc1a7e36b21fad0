use Rattle.std.proofs.Common.{map, take}
use Rattle.rsml_syntax.specs.limits.Comparisons.{same_cell}
use Rattle.rsml_limits.specs.comparisons.Shown.{shown_cell, shown_sum}
use Rattle.rsml_limits.specs.thresholds.Edges as spec
use Rattle.rsml_limits.specs.thresholds.Pairs.{SameMembers}
use Rattle.rsml_limits.proofs.thresholds.cells.cells_of.Given as goal

abbrev pub invariant-loop-terms : goal.invariant-loop-terms
invariant-loop-terms l = SameMembers same_cell (map shown_cell l.cells.keys) (spec.cells_of (map (λ v. shown_sum v.items) (take l.terms-index l.sums)))
