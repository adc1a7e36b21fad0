use Rattle.std.proofs.Common.{◌≡◌, ◌-◌, ℕ}
use Rattle.elaborate.specs.Enabled.{is_enabled, is_sending}
use Rattle.micro_step.specs.Numbers.{IsReading}
use Rattle.micro_step.specs.Places.{passes}
use Rattle.micro_step.specs.Rising.{among}
use Rattle.event_graph.specs.Sets.{has}
use Rattle.micro_step.proofs.PlaceLemmas.{before_event}
use Rattle.micro_step.proofs.reading.Reading.read_all.Given as goal

abbrev pub invariant-loop-event : goal.invariant-loop-event
invariant-loop-event l = record {
  reading : IsReading l.machine l.world l.self;
  taken : (q : ℕ) → among l.self.taken.items q ≡ passes (before_event (has l.present) (λ x. x.event) (is_enabled l.machine l.world) l.from) l.machine.transitions q;
  sent : (q : ℕ) → among l.self.sent.items q ≡ passes (before_event (has l.present) (λ x. x.event) (is_sending l.machine l.world) l.from) l.machine.send_cases q;
}

abbrev pub decreases-loop-event : goal.decreases-loop-event
decreases-loop-event l = 1024 - l.from
