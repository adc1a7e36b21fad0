use Rattle.std.proofs.Common.{flat_map, take}
use Rattle.text_writer.specs.Writes.{Writes}
use Rattle.reactions.specs.Lines.{sent_line}
use Rattle.reactions.proofs.sends.put_sends.Given as goal

abbrev pub invariant-loop-place : goal.invariant-loop-place
invariant-loop-place g l =
    Writes (g.W.Writer.state l.fn.writer) (g.W.Writer.text l.fn.writer) (flat_map (sent_line l.machine.base.spec l.scratch.values) (take l.place l.cases)) (g.W.Writer.state l.writer) (g.W.Writer.text l.writer)
