use Rattle.std.proofs.Common.{take}
use Rattle.std.specs.List.{list_any}
use Rattle.guard_encode.specs.Marking.{Marks, is_cell_at}
use Rattle.guard_encode.proofs.reading.mark_terms.Given as goal

abbrev pub invariant-loop-term : goal.invariant-loop-term
invariant-loop-term l = Marks (λ cell. list_any (is_cell_at cell) (take l.term-index l.terms)) l.fn.cells l.cells
