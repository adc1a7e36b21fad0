use Rattle.std.proofs.Common.{◌≡◌, map, take}
use Rattle.rsml_limits.specs.comparisons.Shown.{shown_sum}
use Rattle.rsml_limits.specs.thresholds.Edges as spec
use Rattle.rsml_limits.proofs.thresholds.numbers.edge_numbers.Given as goal

abbrev pub invariant-loop-terms : goal.invariant-loop-terms
invariant-loop-terms l = l.numbers.items ≡ spec.edge_numbers l.edge (map (λ v. shown_sum v.items) (take l.terms-index l.sums))
