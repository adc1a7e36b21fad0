use Rattle.std.proofs.Common.{◌≡◌, ℕ, length, get_or, if◌then◌else◌, nat_lt}
use Rattle.std.specs.Int.RustNames.{bit_and}
use Rattle.event_graph.proofs.events.Events.common.Given as goal

abbrev pub invariant-loop-place : goal.invariant-loop-place
invariant-loop-place l =
    (length l.both.words ≡ 16)
    × ((i : ℕ) →
    get_or l.both.words i 0
    ≡ (if nat_lt i l.place then bit_and (get_or l.fn.self.words i 0) (get_or l.other.words i 0) else get_or l.fn.self.words i 0))
