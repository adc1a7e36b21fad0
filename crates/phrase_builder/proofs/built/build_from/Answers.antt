use Rattle.std.proofs.Common.{length, refl, subst}
use Rattle.rsml_meaning.specs.Cells.{cells}
use Rattle.rsml_ground.specs.Rests.{Rest}
use Rattle.rsml_ground.specs.StandsFor.{DefinitionIs}
use Rattle.phrase_builder.specs.Sources.{defined_by, all_defined_by}
use Rattle.phrase_builder.proofs.Fitting.{definition_fits}
use Rattle.phrase_builder.proofs.Growing.{rest_more}
use Rattle.phrase_builder.proofs.Lists.{zip_turn_at}
use Rattle.phrase_builder.proofs.Placed.{placed, scoped_here}
use Rattle.phrase_builder.proofs.Standing.{definition_stays}
use Rattle.phrase_builder.proofs.built.build_from.Goals as goal

pub definition-requires-clause-scoped : goal.definition-requires-clause-scoped
definition-requires-clause-scoped c =
    scoped_here c.args.lookup.now c.args.sources.now c.loop-source.source-index c.source-item.result c.loop-source.phrases c.loop-source.definitions.items c.as_slice.result.now c.requires.scoped c.requires.all c.loop-source-test.true c.source-item.is c.as_slice.ensures.value c.loop-source.invariant.stand

pub loop-source-preserved : goal.loop-source-preserved
loop-source-preserved c =
    let s = c.args.lookup.now in
    let sources = c.args.sources.now in
    let n = c.loop-source.source-index in
    let source = c.source-item.result in
    let old = c.loop-source.phrases in
    let new = c.definition.new.phrases in
    let ds = c.loop-source.definitions.items in
    let d = c.in_ok-definition.definition in
    let grew = c.definition.ensures.grew in
    let scoped = scoped_here s sources n source old ds ds c.requires.scoped c.requires.all c.loop-source-test.true c.source-item.is refl c.loop-source.invariant.stand in
    let rest = subst (λ es. Rest (length (cells s)) es new) c.as_slice.ensures.value grew.rest in
    record {
      rest = rest_more (length (cells s)) ds c.push.new.self.items d new c.in_ok-push.ensures.items rest (definition_fits new s (length ds) (defined_by source) d scoped c.in_ok-definition.ensures.is);
      stand = zip_turn_at (DefinitionIs old s) (DefinitionIs new s) (definition_stays old new s grew.keeps) (all_defined_by sources) n (defined_by source) d ds c.push.new.self.items
          c.in_ok-push.ensures.items (placed sources n source c.loop-source-test.true c.source-item.is) c.loop-source.invariant.stand c.in_ok-definition.ensures.is;
    }
