use Rattle.std.proofs.Common.{◌≡◌, take}
use Rattle.rsml_syntax.specs.limits.Limits.{adds, shown}
use Rattle.rsml_limits.specs.counts.Counting.{transition_rows}
use Rattle.rsml_limits.proofs.counts.states.all_rows.Given as goal

abbrev pub invariant-loop-transition : goal.invariant-loop-transition
invariant-loop-transition l = l.count ≡ shown (adds (transition_rows l.globals l.buses) (take l.transition-index l.transitions))
