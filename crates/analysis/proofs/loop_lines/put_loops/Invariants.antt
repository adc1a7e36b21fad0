use Rattle.std.proofs.Common.{flat_map, take}
use Rattle.text_writer.specs.Writes.{Writes}
use Rattle.analysis.specs.Lines.{loop_line_of}
use Rattle.analysis.proofs.loop_lines.put_loops.Given as goal

abbrev pub invariant-loop-event : goal.invariant-loop-event
invariant-loop-event g l = Writes (g.W.Writer.state l.fn.writer) (g.W.Writer.text l.fn.writer) (flat_map (loop_line_of l.texts) (take l.event-index l.loops)) (g.W.Writer.state l.writer) (g.W.Writer.text l.writer)
