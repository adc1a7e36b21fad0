use Rattle.std.proofs.Common.{get_or}
use Rattle.std.proofs.lemmas.List.{get_or_default}
use Rattle.text_writer.proofs.WritingLemmas.{one_more}
use Rattle.analysis.specs.Lines.{loop_line_of}
use Rattle.analysis.proofs.loop_lines.put_loops.Goals as goal

pub loop-event-preserved : goal.loop-event-preserved
loop-event-preserved g c =
    let n = get_or c.args.loops.now c.loop-event.event-index 0 in
    one_more (loop_line_of c.args.texts.now) c.args.loops.now c.loop-event.event-index n c.loop-event-test.true
    (get_or_default c.args.loops.now c.loop-event.event-index 0 n c.loop-event-test.true) c.loop-event.invariant c.put_loop.ensures
