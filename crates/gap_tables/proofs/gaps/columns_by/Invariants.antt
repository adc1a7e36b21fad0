use Rattle.bdd_core.specs.Diagram.{IsRef}
use Rattle.guard_encode.specs.Encoding.{Grows}
use Rattle.gap_tables.proofs.ColumnLists.{ColumnsSoFar}
use Rattle.gap_tables.proofs.gaps.columns_by.Given as goal

-- the columns so far
abbrev pub invariant-loop-turn : goal.invariant-loop-turn
invariant-loop-turn l = record {
  keeps : Grows l.fn.encoder l.encoder;
  rest_ref : IsRef l.encoder.diagram l.rest;
  found : ColumnsSoFar l.fn.encoder l.encoder l.fn.f l.most l._turn l.columns l.rest;
}
