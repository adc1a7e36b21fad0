use Rattle.reactions.specs.Lines.{take_line}
use Rattle.reactions.proofs.FirstTexts.{AreFirst}
use Rattle.reactions.proofs.take_lines.TakeLines.new.Given as goal

abbrev pub invariant-loop-transition : goal.invariant-loop-transition
invariant-loop-transition l = AreFirst (take_line l.machine.base.spec) 16777216 l.lines l.transition l.room
