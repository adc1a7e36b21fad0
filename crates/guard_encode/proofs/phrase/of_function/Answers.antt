use Rattle.std.proofs.Common.{Some, sym, ap, ◌∙◌, Bool, List, ℕ}
use Rattle.std.specs.List.{list_any}
use Rattle.std.proofs.lemmas.Result.{IfOk-weaker}
use Rattle.rsml_syntax.specs.rules.Relations as relations
use Rattle.rsml_ground.specs.declared.definitions.Definition.{Definition}
use Rattle.rsml_ground.specs.declared.definitions.GroundCase.{GroundCase}
use Rattle.rsml_ground.specs.Truths as spec
use Rattle.bdd_core.specs.Calls.{Represents}
use Rattle.world_levels.specs.Spelling.{world_of}
use Rattle.phrase_diagrams.specs.Diagrams.{truths_at}
use Rattle.guard_encode.specs.Phrases.{case_holds}
use Rattle.guard_encode.proofs.CaseLemmas.{values_any}
use Rattle.guard_encode.proofs.phrase.of_function.Goals as goal

pub returns-in-Function-clause-answer : goal.returns-in-Function-clause-answer
returns-in-Function-clause-answer c =
    let cells : (ℕ → Bool) → List _ = λ v. (world_of c.args.layout.now.spec c.args.layout.now.slots v).cells in
    let truths : (ℕ → Bool) → List Bool = truths_at c.args.arena.now c.args.diagrams.now in
    IfOk-weaker c.some_case.result (Represents c.some_case.new.arena (λ v. list_any (case_holds c.args.test.now (cells v) (truths v)) c.as_slice.result.now)) _
    (λ r h. record {
      is_ref = h.is_ref;
      means = λ v. h.means v
          ∙ ap (λ (cs : List GroundCase). list_any (case_holds c.args.test.now (cells v) (truths v)) cs) c.as_slice.ensures
          ∙ values_any c.args.test.now (cells v) (truths v) c.in-Function.cases
          ∙ ap (λ (d : Definition). list_any (λ x. relations.compare c.args.test.now.relation x c.args.test.now.number) (spec.function_values (cells v) (truths v) (Some d))) (sym c.in-Function.is);
    })
    c.some_case.ensures.answer
