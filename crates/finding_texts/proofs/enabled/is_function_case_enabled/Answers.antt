use Rattle.std.proofs.Common.{length, subst}
use Rattle.rsml_meaning.specs.Cells.{cells}
use Rattle.rsml_ground.specs.Rests.{DefinitionFits}
use Rattle.rsml_ground.specs.Truths.{Grounded}
use Rattle.finding_texts.proofs.EnabledLemmas.{cases_fit}
use Rattle.finding_texts.proofs.enabled.is_function_case_enabled.Goals as goal

pub is_case_true-requires : goal.is_case_true-requires
is_case_true-requires c =
    let base = c.args.machine.now.base in
    let fits = subst (λ (b : Grounded). DefinitionFits (length (cells b.spec)) (length b.phrases) c.definition.result.now) c.macros.ensures c.definition.ensures.fits in
    cases_fit base c.args.world.now c.args.truths.now (length (cells base.spec)) c.definition.result.now c.in-Function.cases c.as_slice.result.now c.requires.truths fits c.in-Function.is c.as_slice.ensures
