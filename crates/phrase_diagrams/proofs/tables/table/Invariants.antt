use Rattle.bdd_core.specs.Calls.{Keeps, Represents}
use Rattle.phrase_diagrams.specs.Diagrams.{truths_at}
use Rattle.phrase_diagrams.proofs.ColumnLemmas.{some_before}
use Rattle.phrase_diagrams.proofs.tables.table.Given as goal

-- where some column so far is true
abbrev pub invariant-loop-place : goal.invariant-loop-place
invariant-loop-place l = record {
  keeps : Keeps l.fn.arena l.arena;
  so_far : Represents l.arena (λ v. some_before (truths_at l.fn.arena l.diagrams v) l.rows l.place) l.out;
}
