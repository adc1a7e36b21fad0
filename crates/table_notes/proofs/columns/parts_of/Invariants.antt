use Rattle.table_notes.specs.Columns.{AreParts}
use Rattle.table_notes.proofs.columns.parts_of.Given as goal

abbrev pub invariant-loop-row : goal.invariant-loop-row
invariant-loop-row l = AreParts l.phrases l.parts
