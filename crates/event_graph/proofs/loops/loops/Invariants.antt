use Rattle.std.proofs.Common.{◌≡◌, ◌&&◌, filter}
use Rattle.std.specs.List.{range_with_len}
use Rattle.event_graph.specs.Sets.{has, has_at}
use Rattle.event_graph.proofs.loops.loops.Given as goal

abbrev pub invariant-loop-event : goal.invariant-loop-event
invariant-loop-event l = l.loops.items ≡ filter (λ e. has l.begun e && has_at l.sets e e) (range_with_len 0 l.event)
