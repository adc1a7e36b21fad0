use Rattle.std.proofs.Common.{◌≡◌, ◌*◌, pos, neg_ℤ, ◌+ℤ◌, ◌≤ℤ◌, drop}
use Rattle.std.specs.Option.{option_map}
use Rattle.rsml_syntax.specs.limits.Thresholds as thresholds
use Rattle.rsml_limits.specs.comparisons.Shown.{shown_sum}
use Rattle.rsml_limits.proofs.comparisons.sums.constant_number.Given as goal

abbrev pub invariant-loop-term : goal.invariant-loop-term
invariant-loop-term l =
    (thresholds.constant_number (shown_sum l.terms) ≡ option_map (λ n. l.number +ℤ n) (thresholds.constant_number (shown_sum (drop l.term-index l.terms))))
    × (neg_ℤ (pos (9223372036854775808 * l.term-index)) ≤ℤ l.number)
    × (l.number ≤ℤ pos (9223372036854775808 * l.term-index))
