use Rattle.std.proofs.Common.{sym, subst, List}
use Rattle.std.specs.List.{All}
use Rattle.rsml_ground.specs.declared.definitions.Definition.{Definition}
use Rattle.rsml_ground.specs.declared.definitions.GroundCase.{GroundCase}
use Rattle.macros.specs.Guards.{HasShape, guards_of}
use Rattle.macros.proofs.Below.{all_of_map}
use Rattle.macros.proofs.fast.guards_of.Goals as goal

pub guards_of_cases-requires : goal.guards_of_cases-requires
guards_of_cases-requires c =
    subst (λ (cs : List GroundCase). All (λ x. HasShape x.guard) cs) (sym c.as_slice.ensures)
    (all_of_map HasShape (λ (x : GroundCase). x.guard) c.in-Function.cases (subst (λ (d : Definition). All HasShape (guards_of d)) c.in-Function.is c.requires))
