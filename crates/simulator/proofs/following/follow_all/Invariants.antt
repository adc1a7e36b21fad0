use Rattle.std.proofs.Common.{◌≡◌, ◌≢◌, ℕ, ◌-◌, ◌≤◌, List, [], Some, None}
use Rattle.text_writer.specs.Parts.{state_of, text_of}
use Rattle.event_file.specs.Reading.{taken}
use Rattle.simulator.specs.helpers.Progress.{Counted}
use Rattle.simulator.proofs.LoopLemmas.{AreFollowed}
use Rattle.simulator.proofs.following.follow_all.Given as goal

abbrev pub invariant-events : goal.invariant-events
invariant-events g l = record {
  spec : l.course.spec ≡ l.fn.course.spec;
  limits : l.course.limits ≡ l.fn.course.limits;
  unanswered : l.course.answered ≡ None;
  none : l.course.present ≡ [];
  followed : AreFollowed (g.F.Files.contents l.fn.files l.name) (text_of g.K.Sink.written l.fn.out)
      l.course (state_of g.K.Sink.faults g.K.Sink.written l.out) (text_of g.K.Sink.written l.out);
  reached : g.F.Files.reach l.fn.files l.name ≡ Some 0 → g.F.Files.reach l.files l.name ≡ Some (taken l.course.reading);
  counted : Counted (state_of g.K.Sink.faults g.K.Sink.written l.fn.out) (state_of g.K.Sink.faults g.K.Sink.written l.out);
  contents : (file : List ℕ) → g.F.Files.contents l.files file ≡ g.F.Files.contents l.fn.files file;
  count : (file : List ℕ) → g.F.Files.faults l.fn.files file ≤ g.F.Files.faults l.files file;
  others : (file : List ℕ) → file ≢ l.name → g.F.Files.reach l.files file ≡ g.F.Files.reach l.fn.files file;
}

abbrev pub decreases-events : goal.decreases-events
decreases-events g l = l.fn.course.limits.file - l.course.reading.at
