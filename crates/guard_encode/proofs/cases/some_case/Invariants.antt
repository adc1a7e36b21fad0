use Rattle.std.proofs.Common.{take}
use Rattle.std.specs.List.{list_any}
use Rattle.bdd_core.specs.Calls.{Keeps, Represents}
use Rattle.world_levels.specs.Spelling.{world_of}
use Rattle.phrase_diagrams.specs.Diagrams.{truths_at}
use Rattle.guard_encode.specs.Phrases.{case_holds}
use Rattle.guard_encode.proofs.cases.some_case.Given as goal

-- where some of the cases so far holds
abbrev pub invariant-loop-case : goal.invariant-loop-case
invariant-loop-case l = record {
  keeps : Keeps l.fn.arena l.arena;
  so_far : Represents l.arena (λ v. list_any (case_holds l.test (world_of l.layout.spec l.layout.slots v).cells (truths_at l.fn.arena l.diagrams v)) (take l.case-index l.cases)) l.out;
}
