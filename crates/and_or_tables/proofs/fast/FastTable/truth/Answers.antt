use Rattle.std.proofs.Common.{length, ◌∙◌}
use Rattle.and_or_tables.proofs.FastLemmas.{phrases_below, truth-seen}
use Rattle.and_or_tables.proofs.fast.FastTable.truth.Goals as goal

pub gathered-bits-requires-clause-phrases : goal.gathered-bits-requires-clause-phrases
gathered-bits-requires-clause-phrases c =
    rw c.as_slice.ensures.value (phrases_below c.self.inside.phrases.items c.self.inside.masks (length c.args.truths.now) c.self.invariant.paired (rw (← c.self.view_is) at c.requires))

pub returns : goal.returns
returns c =
    c.any_column.ensures ∙ truth-seen c.self.inside c.self.invariant c.args.self.now c.self.view_is c.args.truths.now c.as_slice.result.now c.gathered-bits.result c.as_slice.ensures.value c.gathered-bits.ensures
