use Rattle.std.proofs.Common.{length}
use Rattle.rsml_syntax.specs.rules.Globals.{up_to}
use Rattle.rsml_meaning.specs.Cells.{cells}
use Rattle.rsml_meaning.specs.Truth.{within, quantified}
use Rattle.rsml_ground.specs.StandsFor.{NumbersAre}
use Rattle.phrase_builder.specs.Grown.{Grew}
use Rattle.phrase_builder.proofs.phrases.numbers.Given as goal

abbrev pub invariant-loop-before : goal.invariant-loop-before
invariant-loop-before l = record {
  grew : Grew (length (cells l.site.lookup.now)) l.site.definitions.now l.fn.phrases l.phrases;
  are : NumbersAre l.phrases l.site.lookup.now (quantified (within l.site.this) l.variable) l.body (up_to l.before) l.found;
}
