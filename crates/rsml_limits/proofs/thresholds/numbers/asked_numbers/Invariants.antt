use Rattle.std.proofs.Common.{◌≡◌, map, take}
use Rattle.rsml_limits.specs.thresholds.Edges as spec
use Rattle.rsml_limits.specs.thresholds.Shown.{shown_right}
use Rattle.rsml_limits.proofs.thresholds.numbers.asked_numbers.Given as goal

abbrev pub invariant-loop-right : goal.invariant-loop-right
invariant-loop-right l = l.numbers.items ≡ spec.asked_numbers l.edge (map shown_right (take l.right-index l.rights))
