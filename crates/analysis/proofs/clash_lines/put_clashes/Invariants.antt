use Rattle.std.proofs.Common.{flat_map, take}
use Rattle.text_writer.specs.Writes.{Writes}
use Rattle.analysis.specs.Lines.{clash_line_of}
use Rattle.analysis.proofs.clash_lines.put_clashes.Given as goal

abbrev pub invariant-loop-clash : goal.invariant-loop-clash
invariant-loop-clash g l = Writes (g.W.Writer.state l.fn.writer) (g.W.Writer.text l.fn.writer) (flat_map (clash_line_of l.texts) (take l.clash-index l.clashes)) (g.W.Writer.state l.writer) (g.W.Writer.text l.writer)
