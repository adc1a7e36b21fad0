use Rattle.std.proofs.Common.{sym, ap, ◌∙◌, map, List}
use Rattle.rsml_ground.specs.declared.definitions.GroundCase.{GroundCase}
use Rattle.macros.specs.Guards.{guards_of}
use Rattle.macros.proofs.macros.Macros.function_value.Goals as goal

pub found_value-requires-clause-guards : goal.found_value-requires-clause-guards
found_value-requires-clause-guards c =
    c.guards.ensures.is c.definition.result.now c.definition.ensures.is ∙ ap guards_of c.in-Function.is
    ∙ ap (λ (cs : List GroundCase). map (λ x. x.guard) cs) (sym c.as_slice.ensures)
