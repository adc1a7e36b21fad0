use Rattle.std.proofs.Common.{◌≡◌, map, take}
use Rattle.rsml_syntax.specs.limits.Comparisons.{ground_sum}
use Rattle.rsml_limits.specs.comparisons.Shown.{shown_sum}
use Rattle.rsml_limits.proofs.comparisons.cases.case_sums.Given as goal

abbrev pub invariant-loop-case : goal.invariant-loop-case
invariant-loop-case l = map (λ terms. shown_sum terms.items) l.values.items ≡ map (λ c. ground_sum l.globals l.indices c.value) (take l.case-index l.case-items)
