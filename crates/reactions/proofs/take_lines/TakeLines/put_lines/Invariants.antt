use Rattle.std.proofs.Common.{flat_map, take}
use Rattle.text_writer.specs.Writes.{Writes}
use Rattle.reactions.specs.Lines.{take_line}
use Rattle.reactions.proofs.take_lines.TakeLines.put_lines.Given as goal

abbrev pub invariant-loop-transition : goal.invariant-loop-transition
invariant-loop-transition g l =
    Writes (g.W.Writer.state l.fn.writer) (g.W.Writer.text l.fn.writer) (flat_map (take_line l.machine.base.spec) (take l.transition-index l.taken)) (g.W.Writer.state l.writer) (g.W.Writer.text l.writer)
