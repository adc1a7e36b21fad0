use Rattle.std.proofs.Common.{flat_map, take}
use Rattle.text_writer.specs.Writes.{Writes}
use Rattle.proving.specs.Numbers.{take_text}
use Rattle.proving.proofs.moments.put_takes.Given as goal

abbrev pub invariant-loop-number : goal.invariant-loop-number
invariant-loop-number g l =
    Writes (g.W.Writer.state l.fn.writer) (g.W.Writer.text l.fn.writer) (flat_map (take_text l.machine.base.spec) (take l.number-index l.taken)) (g.W.Writer.state l.writer) (g.W.Writer.text l.writer)
