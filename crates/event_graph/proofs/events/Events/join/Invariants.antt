use Rattle.std.proofs.Common.{◌≡◌, ℕ, length, get_or, if◌then◌else◌, nat_lt}
use Rattle.std.specs.Int.RustNames.{bit_or}
use Rattle.event_graph.proofs.events.Events.join.Given as goal

abbrev pub invariant-loop-place : goal.invariant-loop-place
invariant-loop-place l =
    (length l.self.words ≡ 16)
    × ((i : ℕ) →
    get_or l.self.words i 0
    ≡ (if nat_lt i l.place then bit_or (get_or l.fn.self.words i 0) (get_or l.other.words i 0) else get_or l.fn.self.words i 0))
