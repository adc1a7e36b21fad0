use Rattle.std.proofs.Common.{drop}
use Rattle.std.specs.List.{list_any}
use Rattle.bdd_core.specs.Calls.{Keeps, Represents}
use Rattle.and_or_tables.specs.Ground.{known}
use Rattle.phrase_diagrams.specs.Diagrams.{truths_at}
use Rattle.phrase_diagrams.proofs.lists.some_of.Given as goal

-- where some of the phrases from a place on is true
abbrev pub invariant-loop-place : goal.invariant-loop-place
invariant-loop-place l = record {
  keeps : Keeps l.fn.arena l.arena;
  behind : Represents l.arena (λ v. list_any (known (truths_at l.fn.arena l.diagrams v)) (drop l.place l.numbers)) l.out;
}
