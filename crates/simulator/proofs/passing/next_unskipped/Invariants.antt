use Rattle.std.proofs.Common.{◌≡◌, ◌≢◌, ℕ, ◌-◌, ◌≤◌, List, Some, IfSome}
use Rattle.event_file.specs.Reading.{taken}
use Rattle.event_file.specs.declared.next.Next.TheVariants as next
use Rattle.simulator.specs.helpers.Skipping.{Passes}
use Rattle.simulator.proofs.passing.next_unskipped.Given as goal

abbrev pub invariant-lines : goal.invariant-lines
invariant-lines g l = record {
  limits : l.reader.limits ≡ l.fn.reader.limits;
  on : l.fn.reader.at ≤ l.reader.at;
  unrefused : l.fn.reader.settled ≢ Some next.ReadFault → l.reader.settled ≢ Some next.ReadFault;
  passes : IfSome (g.F.Files.contents l.fn.files l.name) (λ content. Passes content l.fn.reader l.reader);
  reached : g.F.Files.reach l.fn.files l.name ≡ Some (taken l.fn.reader) → g.F.Files.reach l.files l.name ≡ Some (taken l.reader);
  contents : (file : List ℕ) → g.F.Files.contents l.files file ≡ g.F.Files.contents l.fn.files file;
  count : (file : List ℕ) → g.F.Files.faults l.fn.files file ≤ g.F.Files.faults l.files file;
  others : (file : List ℕ) → file ≢ l.name → g.F.Files.reach l.files file ≡ g.F.Files.reach l.fn.files file;
}

abbrev pub decreases-lines : goal.decreases-lines
decreases-lines g l = l.fn.reader.limits.file - l.reader.at
