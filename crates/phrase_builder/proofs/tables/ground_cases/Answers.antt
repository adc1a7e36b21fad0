use Rattle.std.proofs.Common.{length}
use Rattle.rsml_meaning.specs.Cells.{cells}
use Rattle.rsml_meaning.specs.Truth.{within}
use Rattle.rsml_ground.specs.StandsFor.{CaseIs}
use Rattle.phrase_builder.proofs.Growing.{grew_both}
use Rattle.phrase_builder.proofs.Lists.{zip_turn}
use Rattle.phrase_builder.proofs.Standing.{case_stays}
use Rattle.phrase_builder.proofs.tables.ground_cases.Goals as goal

pub loop-case-preserved : goal.loop-case-preserved
loop-case-preserved c =
    let s = c.args.site.now.lookup.now in
    let r = within c.args.site.now.this in
    let old = c.loop-case.phrases in
    let new = c.ground_case.new.phrases in
    record {
      grew = grew_both (length (cells s)) c.args.site.now.definitions.now c.args.phrases.now old new c.loop-case.invariant.grew c.ground_case.ensures.grew;
      are = zip_turn (CaseIs old s r) (CaseIs new s r) (λ x y. case_stays old new s r x y c.ground_case.ensures.grew.keeps) c.args.cases.now c.loop-case.case-index c.case-item.result c.in_ok-case.case c.loop-case.found c.push.new.self
          c.in_ok-push.ensures.ok c.loop-case-test.true c.case-item.is c.loop-case.invariant.are c.in_ok-case.ensures.is;
    }
