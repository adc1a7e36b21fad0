use Rattle.std.proofs.Common.{◌-◌, ℕ, ◌<◌, ◌≤◌}
use Rattle.event_graph.specs.Rounds.{AreMeeting}
use Rattle.event_graph.proofs.rounds.Rounds.meeting.Given as goal

abbrev pub invariant-loop-event : goal.invariant-loop-event
invariant-loop-event l = (l.at ≤ 1024) × ((e f : ℕ) → e < l.at → AreMeeting l.self e f → ⊥)

abbrev pub decreases-loop-event : goal.decreases-loop-event
decreases-loop-event l = 1024 - l.at
