use Rattle.bdd_core.specs.Diagram.{IsRef}
use Rattle.gap_notes.proofs.mending.is_alone_in.Given as goal

abbrev pub invariant-loop-column : goal.invariant-loop-column
invariant-loop-column l = record {
  is_ref : IsRef l.encoder.diagram l.others;
}
