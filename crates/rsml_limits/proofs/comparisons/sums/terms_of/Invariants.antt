use Rattle.std.proofs.Common.{◌≡◌, take}
use Rattle.rsml_syntax.specs.limits.Comparisons as spec
use Rattle.rsml_limits.specs.comparisons.Shown.{shown_sum}
use Rattle.rsml_limits.proofs.comparisons.sums.terms_of.Given as goal

abbrev pub invariant-loop-term : goal.invariant-loop-term
invariant-loop-term l = shown_sum l.terms.items ≡ spec.ground_sum l.globals l.indices (record { terms = take l.term-index l.term-items })
