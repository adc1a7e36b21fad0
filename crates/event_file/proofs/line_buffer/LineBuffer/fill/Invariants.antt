use Rattle.std.proofs.Common.{◌≡◌, ◌≢◌, ℕ, ◌+◌, ◌-◌, ◌≤◌, ◌⊎◌, List, Some, length}
use Rattle.std.specs.Prelude.{IfSome}
use Rattle.event_file.specs.Fronts.{IsFront}
use Rattle.event_file.specs.declared.front.Front.TheVariants as front
use Rattle.event_file.specs.helpers.Windows.{Holds}
use Rattle.event_file.proofs.line_buffer.LineBuffer.fill.Given as goal

abbrev pub invariant-reads : goal.invariant-reads
invariant-reads g l = record {
  room : l.self.room ≡ l.fn.self.room;
  kept : ((l.files ≡ l.fn.files) × (l.self.held ≡ l.fn.self.held)) ⊎ IsFront l.most l.fn.self.held front.Open;
  holds : IfSome (g.F.Files.contents l.files l.name) (λ file. Holds file l.at l.fn.self.held → Holds file l.at l.self.held);
  reached : g.F.Files.reach l.fn.files l.name ≡ Some (l.at + length l.fn.self.held) → g.F.Files.reach l.files l.name ≡ Some (l.at + length l.self.held);
  contents : (file : List ℕ) → g.F.Files.contents l.files file ≡ g.F.Files.contents l.fn.files file;
  count : (file : List ℕ) → g.F.Files.faults l.fn.files file ≤ g.F.Files.faults l.files file;
  others : (file : List ℕ) → file ≢ l.name → g.F.Files.reach l.files file ≡ g.F.Files.reach l.fn.files file;
}

abbrev pub decreases-reads : goal.decreases-reads
decreases-reads g l = l.self.room - length l.self.held
