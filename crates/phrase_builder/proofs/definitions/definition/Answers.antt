use Rattle.std.proofs.Common.{length, subst}
use Rattle.rsml_ground.specs.Scoped.{DefinitionIsScoped}
use Rattle.phrase_builder.specs.Sources.{instance_of}
use Rattle.phrase_builder.proofs.Cases.{cases_scoped}
use Rattle.phrase_builder.proofs.definitions.definition.Goals as goal

pub ground_cases-requires-clause-scoped : goal.ground_cases-requires-clause-scoped
ground_cases-requires-clause-scoped c =
    let source = c.args.source.now in
    let n = length c.args.definitions.now in
    cases_scoped c.args.lookup.now n source.name.now c.in-Cases.cases.now source.index
    (subst (λ content. DefinitionIsScoped c.args.lookup.now n (instance_of source.name.now content source.index)) c.in-Cases.is c.requires.scoped)
