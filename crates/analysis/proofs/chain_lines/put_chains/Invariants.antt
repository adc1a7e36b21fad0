use Rattle.std.proofs.Common.{flat_map, take}
use Rattle.text_writer.specs.Writes.{Writes}
use Rattle.analysis.specs.Lines.{chain_line_of}
use Rattle.analysis.proofs.chain_lines.put_chains.Given as goal

abbrev pub invariant-loop-external : goal.invariant-loop-external
invariant-loop-external g l = Writes (g.W.Writer.state l.fn.writer) (g.W.Writer.text l.fn.writer) (flat_map (chain_line_of l.texts) (take l.external-index l.externals)) (g.W.Writer.state l.writer) (g.W.Writer.text l.writer)
