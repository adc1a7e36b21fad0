use Rattle.bdd_core.specs.Diagram.{IsRef}
use Rattle.guard_encode.specs.Encoding.{Keeps}
use Rattle.gap_notes.proofs.columns.first_column.Given as goal

abbrev pub invariant-loop-row : goal.invariant-loop-row
invariant-loop-row l = record {
  keeps : Keeps l.fn.encoder l.encoder;
  is_ref : IsRef l.encoder.diagram l.there;
}
