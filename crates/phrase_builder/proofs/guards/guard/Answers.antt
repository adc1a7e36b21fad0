use Rattle.std.proofs.Common.{◌<◌, ◌^◌, length, subst, rules}
use Rattle.rsml_meaning.specs.Interfaces.{definitions}
use Rattle.rsml_meaning.specs.Truth.{within}
use Rattle.rsml_ground.specs.StandsFor.{DefinitionIs}
use Rattle.rsml_ground.specs.Scoped.{GuardIsScoped}
use Rattle.phrase_builder.proofs.Fitting.{guards_fit}
use Rattle.phrase_builder.proofs.Lists.{zip_length, zip_to}
use Rattle.phrase_builder.proofs.Standing.{definition_stays}
use Rattle.phrase_builder.proofs.guards.guard.Goals as goal

pub ground_guard-guard-requires-clause-scoped : goal.ground_guard-guard-requires-clause-scoped
ground_guard-guard-requires-clause-scoped c =
    let s = c.args.lookup.now in
    subst (λ n. GuardIsScoped s n (within c.args.this) c.args.guard.now) (zip_length (DefinitionIs c.args.phrases.now s) (definitions s) c.args.definitions.now c.requires.before.stand) c.requires.scoped

pub returns-clause-after : goal.returns-clause-after
returns-clause-after c =
    let s = c.args.lookup.now in
    let old = c.args.phrases.now in
    let new = c.ground_guard-guard.new.phrases in
    let grew = c.ground_guard-guard.ensures.grew in
    let few : length new < 2 ^ 32 = search rules in
    record {
      checked = c.requires.before.checked;
      short = c.requires.before.short;
      rest = grew.rest;
      one_number = c.len.ensures.shared;
      stand = zip_to (DefinitionIs old s) (DefinitionIs new s) (definition_stays old new s grew.keeps) (definitions s) c.args.definitions.now c.requires.before.stand;
      few = few;
    }

pub returns-clause-fits : goal.returns-clause-fits
returns-clause-fits c = guards_fit c.ground_guard-guard.new.phrases c.args.lookup.now (length (definitions c.args.lookup.now)) (within c.args.this) c.args.guard.now c.ground_guard-guard.result c.requires.scoped c.ground_guard-guard.ensures.is
