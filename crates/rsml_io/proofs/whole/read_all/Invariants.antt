use Rattle.std.proofs.Common.{length, ◌-◌, ◌+◌, ◌≡◌, ◌≢◌, ◌≤◌, ℕ, List, take}
use Rattle.std.specs.Prelude.{IfSome}
use Rattle.rsml_io.specs.Reading.{raised}
use Rattle.rsml_io.proofs.whole.read_all.Given as goal

abbrev pub invariant-pieces : goal.invariant-pieces
invariant-pieces g l = record {
  room : length l.piece ≡ 4096;
  within : length l.bytes.items ≤ l.limit;
  front : IfSome (g.F.Files.contents l.fn.files l.name) (λ file. l.bytes.items ≡ take (length l.bytes.items) file);
  reached : g.F.Files.reach l.files l.name ≡ raised (g.F.Files.reach l.fn.files l.name) (length l.bytes.items);
  contents : (file : List ℕ) → g.F.Files.contents l.files file ≡ g.F.Files.contents l.fn.files file;
  count : (file : List ℕ) → g.F.Files.faults l.fn.files file ≤ g.F.Files.faults l.files file;
  others : (file : List ℕ) → file ≢ l.name → g.F.Files.reach l.files file ≡ g.F.Files.reach l.fn.files file;
}

abbrev pub decreases-pieces : goal.decreases-pieces
decreases-pieces g l = l.limit + 1 - length l.bytes.items
