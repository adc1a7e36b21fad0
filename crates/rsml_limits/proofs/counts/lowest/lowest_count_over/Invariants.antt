use Rattle.std.proofs.Common.{◌≡◌, drop, map}
use Rattle.rsml_syntax.specs.limits.Limits.{first_over}
use Rattle.rsml_limits.specs.counts.CountLimits.{count_limits, limit_of}
use Rattle.rsml_limits.proofs.counts.lowest.lowest_count_over.Given as goal

abbrev pub invariant-loop-counted : goal.invariant-loop-counted
invariant-loop-counted l = first_over l.spec (map limit_of (drop l.counted-index l.counted-items)) ≡ first_over l.spec count_limits
