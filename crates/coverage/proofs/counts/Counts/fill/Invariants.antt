use Rattle.std.proofs.Common.{◌≡◌, ◌≢◌, ℕ, ◌-◌, ◌≤◌, List, [], Some, None}
use Rattle.event_file.specs.Reading.{taken}
use Rattle.coverage.proofs.FillLemmas.{HasCounted}
use Rattle.coverage.proofs.counts.Counts.fill.Given as goal

abbrev pub invariant-events : goal.invariant-events
invariant-events g l = record {
  spec : l.simulator.spec ≡ l.fn.simulator.spec;
  limits : l.simulator.limits ≡ l.fn.simulator.limits;
  unanswered : l.simulator.answered ≡ None;
  none : l.simulator.present ≡ [];
  few : l.simulator.events ≤ l.simulator.reading.at;
  counted : HasCounted (g.F.Files.contents l.fn.files l.name) l.simulator l.self;
  reached : g.F.Files.reach l.fn.files l.name ≡ Some 0 → g.F.Files.reach l.files l.name ≡ Some (taken l.simulator.reading);
  contents : (file : List ℕ) → g.F.Files.contents l.files file ≡ g.F.Files.contents l.fn.files file;
  count : (file : List ℕ) → g.F.Files.faults l.fn.files file ≤ g.F.Files.faults l.files file;
  others : (file : List ℕ) → file ≢ l.name → g.F.Files.reach l.files file ≡ g.F.Files.reach l.fn.files file;
}

abbrev pub decreases-events : goal.decreases-events
decreases-events g l = l.fn.simulator.limits.file - l.simulator.reading.at
