use Rattle.std.proofs.Common.{length, take}
use Rattle.std.specs.List.{AllZip}
use Rattle.rsml_meaning.specs.Cells.{cells}
use Rattle.rsml_meaning.specs.Truth.{within}
use Rattle.rsml_ground.specs.StandsFor.{CaseIs}
use Rattle.phrase_builder.specs.Grown.{Grew}
use Rattle.phrase_builder.proofs.tables.ground_cases.Given as goal

abbrev pub invariant-loop-case : goal.invariant-loop-case
invariant-loop-case l = record {
  grew : Grew (length (cells l.site.lookup.now)) l.site.definitions.now l.fn.phrases l.phrases;
  are : AllZip (CaseIs l.phrases l.site.lookup.now (within l.site.this)) (take l.case-index l.cases) l.found;
}
