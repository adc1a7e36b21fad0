use Rattle.std.proofs.Common.{◌≡◌, List, Some, length, sym, ap, ◌∙◌, subst, w64, to_z, of_z, rules, FitsSigned}
use Rattle.std.proofs.lemmas.Int.{to_z-of_z}
use Rattle.std.proofs.lemmas.Option.{same_Some}
use Rattle.std.proofs.lemmas.Result.{IfOk-weaker}
use Rattle.std.specs.List.{list_any}
use Rattle.rsml_syntax.specs.declared.syntax.Spec.{Spec}
use Rattle.rsml_syntax.specs.rules.Relations as relations
use Rattle.rsml_meaning.specs.Cells.{cells, InputCell}
use Rattle.rsml_ground.specs.declared.phrases.GroundPhrase.{GroundPhrase}
use Rattle.rsml_ground.specs.Rests.{IsDefined, RestsOn, DefinitionFits, SumFits}
use Rattle.rsml_ground.specs.Truths as spec
use Rattle.macros.proofs.Below.{defined_within, defined_fits}
use Rattle.bdd_core.specs.Calls.{Represents}
use Rattle.world_levels.specs.Spelling.{world_of}
use Rattle.phrase_diagrams.specs.Diagrams.{truths_at}
use Rattle.guard_encode.proofs.NextLemmas.{state_next, function_next}
use Rattle.guard_encode.proofs.phrases.next.Goals as goal

pub of_macro-requires-clause-fits : goal.of_macro-requires-clause-fits
of_macro-requires-clause-fits c =
    let ds = c.args.macros.now.definitions in
    let many = length (cells c.args.macros.now.spec) in
    let is : IsDefined ds many c.args.number c.in-Macro.number = subst (λ (p : GroundPhrase). RestsOn ds many c.args.number p) c.in-Macro.is c.phrase.ensures.rests in
    (many, subst (λ n. DefinitionFits many n c.definition.result.now) (sym c.requires.before.many) (defined_fits ds many c.args.number c.in-Macro.number c.definition.result.now is c.definition.ensures.is))

pub definition-requires-in-Function : goal.definition-requires-in-Function
definition-requires-in-Function c =
    let ds = c.args.macros.now.definitions in
    let many = length (cells c.args.macros.now.spec) in
    defined_within ds many c.args.number c.in-Function.function (subst (λ (p : GroundPhrase). RestsOn ds many c.args.number p) c.in-Function.is c.phrase.ensures.rests)

pub of_function-requires-clause-fits : goal.of_function-requires-clause-fits
of_function-requires-clause-fits c =
    let ds = c.args.macros.now.definitions in
    let many = length (cells c.args.macros.now.spec) in
    let is : IsDefined ds many c.args.number c.in-Function.function = subst (λ (p : GroundPhrase). RestsOn ds many c.args.number p) c.in-Function.is c.phrase.ensures.rests in
    let fits : DefinitionFits many c.args.number c.definition-in-Function.result.now = defined_fits ds many c.args.number c.in-Function.function c.definition-in-Function.result.now is c.definition-in-Function.ensures.is in
    let same : many ≡ length (cells c.layout.result.now.spec) =
    ap (λ (cs : List InputCell). length cs) (sym c.requires.worlds.cells) ∙ ap (λ (s : Spec). length (cells s)) (sym c.layout.ensures.spec) in
    subst (λ n. DefinitionFits (length (cells c.layout.result.now.spec)) n c.definition-in-Function.result.now) (sym c.requires.before.many)
    (subst (λ n. DefinitionFits n c.args.number c.definition-in-Function.result.now) same fits)

pub of_comparison-requires-clause-left : goal.of_comparison-requires-clause-left
of_comparison-requires-clause-left c =
    let many = length (cells c.args.macros.now.spec) in
    let is = subst (λ (p : GroundPhrase). RestsOn c.args.macros.now.definitions many c.args.number p) c.in-Compare.is c.phrase.ensures.rests in
    subst (λ n. SumFits n c.in-Compare.left) (ap (λ (cs : List InputCell). length cs) (sym c.requires.worlds.cells)) is.0

pub of_comparison-requires-clause-right : goal.of_comparison-requires-clause-right
of_comparison-requires-clause-right c =
    let many = length (cells c.args.macros.now.spec) in
    let is = subst (λ (p : GroundPhrase). RestsOn c.args.macros.now.definitions many c.args.number p) c.in-Compare.is c.phrase.ensures.rests in
    subst (λ n. SumFits n c.in-Compare.right) (ap (λ (cs : List InputCell). length cs) (sym c.requires.worlds.cells)) is.1

pub returns-in-In-clause-answer : goal.returns-in-In-clause-answer
returns-in-In-clause-answer c = λ p at.
    state_next c.args.arena.now c.args.levels.now c.args.macros.now c.args.active.now c.args.diagrams.now p c.in-In.node c.of_state.result c.requires.worlds c.requires.active
    (same_Some p c.phrase.result.now (sym at ∙ c.phrase.ensures.is) ∙ c.in-In.is) c.of_state.ensures.there c.of_state.ensures.past

pub returns-in-Function-clause-answer : goal.returns-in-Function-clause-answer
returns-in-Function-clause-answer c =
    let fits : FitsSigned w64 c.in-Function.constant = search rules in
    let number = to_z w64 (of_z w64 c.in-Function.constant) in
    IfOk-weaker c.of_function.result (Represents c.of_function.new.arena (λ v. list_any (λ x. relations.compare c.in-Function.relation x number)
    (spec.function_values (world_of c.layout.result.now.spec c.layout.result.now.slots v).cells (truths_at c.args.arena.now c.args.diagrams.now v) (Some c.definition-in-Function.result.now)))) _
    (λ r h p at. function_next c.args.arena.now c.of_function.new.arena c.args.levels.now c.args.macros.now c.layout.result.now c.args.diagrams.now c.definition-in-Function.result.now c.in-Function.function
    c.in-Function.relation c.in-Function.constant p r c.layout.ensures.spec c.layout.ensures.slots c.definition-in-Function.ensures.is (same_Some p c.phrase.result.now (sym at ∙ c.phrase.ensures.is) ∙ c.in-Function.is)
    (subst (λ n. Represents c.of_function.new.arena (λ v. list_any (λ x. relations.compare c.in-Function.relation x n)
    (spec.function_values (world_of c.layout.result.now.spec c.layout.result.now.slots v).cells (truths_at c.args.arena.now c.args.diagrams.now v) (Some c.definition-in-Function.result.now))) r)
    (to_z-of_z w64 c.in-Function.constant fits) h))
    c.of_function.ensures.answer
