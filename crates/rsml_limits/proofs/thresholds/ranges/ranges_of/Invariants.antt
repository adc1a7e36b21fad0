use Rattle.std.proofs.Common.{◌≡◌, map, take}
use Rattle.rsml_limits.specs.thresholds.Tabled.{input_ends}
use Rattle.rsml_limits.proofs.thresholds.ranges.ranges_of.Given as goal

abbrev pub invariant-loop-cell : goal.invariant-loop-cell
invariant-loop-cell l = map (λ r. (r.low, r.high)) l.ranges.items ≡ map (λ c. input_ends l.globals c.input.now) (take l.cell-index l.cells)
