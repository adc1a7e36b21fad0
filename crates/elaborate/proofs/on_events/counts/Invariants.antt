use Rattle.std.proofs.Common.{◌≡◌, length}
use Rattle.elaborate.proofs.on_events.counts.Given as goal

abbrev pub invariant-loop-case : goal.invariant-loop-case
invariant-loop-case l = length l.counts.items ≡ l.count
