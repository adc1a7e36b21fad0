use Rattle.std.proofs.Common.{get_or}
use Rattle.std.proofs.lemmas.List.{get_or_default}
use Rattle.text_writer.proofs.WritingLemmas.{one_more}
use Rattle.reactions.specs.Lines.{take_line}
use Rattle.reactions.proofs.take_lines.TakeLines.put_lines.Goals as goal

pub loop-transition-preserved : goal.loop-transition-preserved
loop-transition-preserved g c =
    let ks = c.args.taken.now in
    let i = c.loop-transition.transition-index in
    let k = get_or ks i 0 in
    one_more (take_line c.args.machine.now.base.spec) ks i k c.loop-transition-test.true (get_or_default ks i 0 k c.loop-transition-test.true) c.loop-transition.invariant c.put_line.ensures
