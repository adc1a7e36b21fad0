use Rattle.std.proofs.Common.{length, take}
use Rattle.std.specs.List.{AllZip}
use Rattle.rsml_meaning.specs.Cells.{cells}
use Rattle.rsml_ground.specs.Rests.{Rest}
use Rattle.rsml_ground.specs.StandsFor.{DefinitionIs}
use Rattle.phrase_builder.specs.Sources.{all_defined_by}
use Rattle.phrase_builder.proofs.built.build_from.Given as goal

abbrev pub invariant-loop-source : goal.invariant-loop-source
invariant-loop-source l = record {
  rest : Rest (length (cells l.lookup)) l.definitions.items l.phrases;
  stand : AllZip (DefinitionIs l.phrases l.lookup) (take l.source-index (all_defined_by l.sources)) l.definitions.items;
}
