use Rattle.std.proofs.Common.{◌≡◌, take}
use Rattle.rsml_syntax.specs.limits.Limits.{adds, shown}
use Rattle.rsml_limits.specs.counts.Counting.{sources_among}
use Rattle.rsml_limits.proofs.counts.states.all_sources.Given as goal

abbrev pub invariant-loop-transition : goal.invariant-loop-transition
invariant-loop-transition l = l.count ≡ shown (adds (sources_among l.buses) (take l.transition-index l.transitions))
