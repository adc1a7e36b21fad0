use Rattle.std.proofs.Common.{◌≡◌, sym, ap, ◌∙◌, subst, List, [], ◌∷◌, length, get_or, Some, arith}
use Rattle.rsml_ground.specs.declared.definitions.Definition.{Definition}
use Rattle.rsml_ground.specs.declared.definitions.GroundGuard.{GroundGuard}
use Rattle.rsml_ground.specs.declared.definitions.GroundGuard.TheVariants as guards
use Rattle.rsml_ground.specs.Rests.{DefinitionFits}
use Rattle.rsml_ground.specs.Truths.{guard_truth, macro_truth}
use Rattle.rsml_meaning.specs.Cells.{cells}
use Rattle.macros.specs.Guards.{GuardBelow, guards_of}
use Rattle.macros.proofs.Below.{defined_fits}
use Rattle.macros.proofs.macros.Macros.macro_truth.Goals as goal

pub bounds-guards-0 : goal.bounds-guards-0
bounds-guards-0 c =
    let e : c.guards.result.now ≡ guards.Table c.in-Macro.field-0 ∷ [] = c.guards.ensures.is c.definition.result.now c.definition.ensures.is ∙ ap guards_of c.in-Macro.is in
    omega (arith, ap (λ (xs : List GroundGuard). length xs) e)

pub truth-requires : goal.truth-requires
truth-requires c =
    let e : c.guards.result.now ≡ guards.Table c.in-Macro.field-0 ∷ [] = c.guards.ensures.is c.definition.result.now c.definition.ensures.is ∙ ap guards_of c.in-Macro.is in
    let is : c.index-guards-0.result ≡ guards.Table c.in-Macro.field-0 = c.index-guards-0.is ∙ ap (λ (xs : List GroundGuard). get_or xs 0 c.index-guards-0.result) e in
    let fits = subst (λ (d : Definition). DefinitionFits (length (cells c.args.self.now.spec)) (length c.args.truths.now) d) c.in-Macro.is
    (defined_fits c.args.self.now.definitions (length (cells c.args.self.now.spec)) (length c.args.truths.now) c.args.number c.definition.result.now c.requires c.definition.ensures.is) in
    subst (GuardBelow (length c.args.truths.now)) (sym is) fits.below

pub returns-in-Macro : goal.returns-in-Macro
returns-in-Macro c =
    let e : c.guards.result.now ≡ guards.Table c.in-Macro.field-0 ∷ [] = c.guards.ensures.is c.definition.result.now c.definition.ensures.is ∙ ap guards_of c.in-Macro.is in
    let is : c.index-guards-0.result ≡ guards.Table c.in-Macro.field-0 = c.index-guards-0.is ∙ ap (λ (xs : List GroundGuard). get_or xs 0 c.index-guards-0.result) e in
    c.truth.ensures ∙ ap (guard_truth c.args.truths.now) is ∙ sym (ap (macro_truth c.args.truths.now) (c.definition.ensures.is ∙ ap Some c.in-Macro.is))
