use Rattle.std.proofs.Common.{◌≡◌, ℕ, ◌<◌, get_or}
use Rattle.std.specs.Int.RustNames.{bit_or}
use Rattle.event_graph.proofs.events.Events.is_within.Given as goal

abbrev pub invariant-loop-place : goal.invariant-loop-place
invariant-loop-place l = (i : ℕ) → i < l.place → bit_or (get_or l.self.words i 0) (get_or l.other.words i 0) ≡ get_or l.other.words i 0
