use Rattle.std.proofs.Common.{map, drop}
use Rattle.rsml_syntax.specs.rules.Tables.{column}
use Rattle.bdd_core.specs.Calls.{Keeps, Represents}
use Rattle.and_or_tables.specs.Ground.{ground_row}
use Rattle.phrase_diagrams.specs.Diagrams.{truths_at}
use Rattle.phrase_diagrams.proofs.tables.column_of.Given as goal

-- where the column is true of the rows from a place on
abbrev pub invariant-loop-at : goal.invariant-loop-at
invariant-loop-at l = record {
  keeps : Keeps l.fn.arena l.arena;
  behind : Represents l.arena (λ v. column (map (ground_row (truths_at l.fn.arena l.diagrams v)) (drop l.at l.rows)) l.place) l.out;
}
