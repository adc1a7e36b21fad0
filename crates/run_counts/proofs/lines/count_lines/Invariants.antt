use Rattle.std.proofs.Common.{◌≡◌, ◌-◌, ◌*◌, ◌≤◌, length}
use Rattle.event_file.specs.Reading.{Begins}
use Rattle.run_counts.specs.Ready.{IsReady}
use Rattle.run_counts.proofs.LoopLemmas.{Followed}
use Rattle.run_counts.proofs.lines.count_lines.Given as goal

abbrev pub invariant-lines : goal.invariant-lines
invariant-lines l = record {
  ready : IsReady l.machine l.progress;
  few : l.progress.counts.rounds ≤ 1024 * l.progress.counts.events;
  events : l.progress.counts.events ≤ l.at;
  begins : Begins l.text l.at;
  room : length l.values ≡ length l.fn.values;
  followed : Followed l.machine.base.spec l.text l.at l.progress.world l.progress.counts;
}

abbrev pub decreases-lines : goal.decreases-lines
decreases-lines l = length l.text - l.at
