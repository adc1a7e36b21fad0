use Rattle.finding_texts.proofs.EnabledLemmas.{guard_below, send_case_enabled}
use Rattle.finding_texts.proofs.enabled.is_send_case_enabled.Goals as goal

pub truth-requires : goal.truth-requires
truth-requires c = guard_below c.args.machine.now.base c.args.world.now c.args.truths.now c.case_guard.result.now c.requires.truths c.case_guard.ensures.below

pub returns : goal.returns
returns c =
    send_case_enabled c.args.machine.now c.args.world.now c.args.truths.now c.args.case c.case_guard.result.now c.truth.result c.requires.case c.requires.truths
    c.case_guard.ensures.is c.truth.ensures
