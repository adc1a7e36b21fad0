use Rattle.finding_texts.proofs.EnabledLemmas.{guard_below, transition_enabled, transition_resting}
use Rattle.std.proofs.Common.{true}
use Rattle.finding_texts.proofs.enabled.is_transition_enabled.Goals as goal

pub truth-requires : goal.truth-requires
truth-requires c = guard_below c.args.machine.now.base c.args.world.now c.args.truths.now c.guard.result.now c.requires.truths c.guard.ensures.below

pub returns-then-is_active : goal.returns-then-is_active
returns-then-is_active c =
    transition_enabled c.args.machine.now c.args.world.now c.args.truths.now c.args.transition c.guard.result.now true c.truth.result c.requires.transition c.requires.truths
    c.guard.ensures.is c.if-is_active.ensures c.truth.ensures

pub returns-else-is_active : goal.returns-else-is_active
returns-else-is_active c =
    transition_resting c.args.machine.now c.args.world.now c.args.transition c.is_active.result c.requires.transition c.is_active.ensures c.if-is_active.ensures
