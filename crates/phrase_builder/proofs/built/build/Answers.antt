use Rattle.phrase_builder.proofs.built.build.Goals as goal

pub build_from-requires-clause-scoped : goal.build_from-requires-clause-scoped
build_from-requires-clause-scoped c = c.rules_scope_phrases.ensures c.args.lookup.now c.spec.ensures.checked c.spec.ensures.short
