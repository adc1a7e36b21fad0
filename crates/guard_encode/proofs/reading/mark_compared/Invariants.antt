use Rattle.std.proofs.Common.{take}
use Rattle.std.specs.List.{list_any}
use Rattle.guard_encode.specs.Marking.{Marks, is_named}
use Rattle.guard_encode.proofs.reading.mark_compared.Given as goal

abbrev pub invariant-loop-place : goal.invariant-loop-place
invariant-loop-place l = Marks (λ cell. list_any (λ x. is_named l.levels l.used x cell) (take l.place l.levels.keyed)) l.fn.cells l.cells
