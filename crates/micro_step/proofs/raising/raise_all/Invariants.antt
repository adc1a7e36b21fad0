use Rattle.std.proofs.Common.{◌≡◌, ℕ, take}
use Rattle.micro_step.specs.Numbers.{raised_at}
use Rattle.event_graph.specs.Sets.{has}
use Rattle.micro_step.proofs.raising.raise_all.Given as goal

abbrev pub invariant-loop-transition : goal.invariant-loop-transition
invariant-loop-transition l = (q : ℕ) → has l.raised q ≡ raised_at l.machine (take l.transition-index l.taken) q
