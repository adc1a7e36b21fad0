use Rattle.std.proofs.Common.{length}
use Rattle.rsml_meaning.specs.Cells.{cells}
use Rattle.phrase_builder.proofs.Growing.{added, simple_rests}
use Rattle.phrase_builder.proofs.phrases.simple_number.Goals as goal

pub returns-clause-grew : goal.returns-clause-grew
returns-clause-grew c =
    let count = length (cells c.args.site.now.lookup.now) in
    added count c.args.site.now.definitions.now c.args.phrases.now c.add.new.self c.in_ok-simple.simple c.in_ok-number.ensures.ok c.requires.rest
    (simple_rests count c.args.site.now.definitions.now c.args.phrases.now c.in_ok-simple.simple c.requires.rest c.in_ok-simple.ensures.fits)
