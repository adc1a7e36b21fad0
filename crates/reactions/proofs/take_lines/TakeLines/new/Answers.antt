use Rattle.std.proofs.Common.{ℕ, List, length, ap}
use Rattle.reactions.specs.Lines.{take_line}
use Rattle.reactions.proofs.FirstTexts.{one_first_more}
use Rattle.reactions.proofs.take_lines.TakeLines.new.Goals as goal

pub loop-transition-preserved : goal.loop-transition-preserved
loop-transition-preserved c =
    one_first_more (take_line c.args.machine.now.base.spec) 16777216 c.loop-transition.lines _ c.in_ok-line.line c.loop-transition.transition c.loop-transition.room _
    c.loop-transition.invariant c.in_ok-push.ensures.ok c.in_ok-line.ensures (ap (λ (l : List ℕ). length l) c.bytes-size.ensures) c.if-size-room.false
