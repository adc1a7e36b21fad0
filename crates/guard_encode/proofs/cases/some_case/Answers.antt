use Rattle.std.proofs.Common.{Bool, List, ℕ}
use Rattle.rsml_ground.specs.declared.definitions.GroundCase.{GroundCase}
use Rattle.bdd_core.proofs.StepLemmas.{keeps_trans}
use Rattle.world_levels.specs.Spelling.{world_of}
use Rattle.guard_encode.specs.Phrases.{case_holds}
use Rattle.guard_encode.proofs.Telling.{some_more}
use Rattle.guard_encode.proofs.cases.some_case.Goals as goal

pub loop-case-preserved : goal.loop-case-preserved
loop-case-preserved c = record {
  keeps = keeps_trans c.args.arena.now c.one_case.new.arena c.or.new.self
      (keeps_trans c.args.arena.now c.loop-case.arena c.one_case.new.arena c.loop-case.invariant.keeps c.in_ok-holds.ensures.keeps) c.in_ok-out.ensures.keeps;
  so_far = some_more (λ (v : ℕ → Bool) (ts : List Bool) (x : GroundCase). case_holds c.args.test.now (world_of c.args.layout.now.spec c.args.layout.now.slots v).cells ts x)
      c.args.arena.now c.loop-case.arena c.one_case.new.arena c.or.new.self c.args.diagrams.now c.args.cases.now c.loop-case.case-index c.case-item.result c.loop-case.out c.in_ok-holds.holds c.in_ok-out.out
      c.loop-case-test.true c.case-item.is c.requires.diagrams c.loop-case.invariant.keeps c.in_ok-holds.ensures.keeps c.loop-case.invariant.so_far c.in_ok-holds.ensures.answer c.in_ok-out.ensures.answer;
}
