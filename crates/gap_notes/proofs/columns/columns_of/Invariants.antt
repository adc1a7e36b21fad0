use Rattle.bdd_core.specs.Diagram.{IsRef}
use Rattle.gap_notes.proofs.columns.columns_of.Given as goal

abbrev pub invariant-loop-column : goal.invariant-loop-column
invariant-loop-column l = record {
  rest : IsRef l.encoder.diagram l.rest;
  others : IsRef l.encoder.diagram l.others;
}
