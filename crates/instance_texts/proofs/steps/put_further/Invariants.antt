use Rattle.std.proofs.Common.{flat_map, take}
use Rattle.text_writer.specs.Writes.{Writes}
use Rattle.instance_texts.specs.Dotted.{dotted}
use Rattle.instance_texts.proofs.steps.put_further.Given as goal

abbrev pub invariant-loop-step : goal.invariant-loop-step
invariant-loop-step g l = Writes (g.W.Writer.state l.fn.writer) (g.W.Writer.text l.fn.writer) (flat_map dotted (take l.step-index l.steps)) (g.W.Writer.state l.writer) (g.W.Writer.text l.writer)
