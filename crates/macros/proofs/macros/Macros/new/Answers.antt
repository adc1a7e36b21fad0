use Rattle.std.proofs.Common.{sym, subst, length, List}
use Rattle.std.specs.List.{All}
use Rattle.rsml_meaning.specs.Cells.{cells}
use Rattle.rsml_ground.specs.declared.definitions.Definition.{Definition}
use Rattle.macros.specs.Guards.{HasShape, guards_of}
use Rattle.macros.proofs.Below.{shapes}
use Rattle.macros.proofs.macros.Macros.new.Goals as goal

pub tables_of-requires : goal.tables_of-requires
tables_of-requires c =
    subst (λ (ds : List Definition). All (λ d. All HasShape (guards_of d)) ds) (sym c.as_slice.ensures.value)
    (shapes (length (cells c.args.spec.now)) (length c.args.phrases) c.args.definitions.items c.requires.rest.definition)
