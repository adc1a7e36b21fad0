use Rattle.std.proofs.Common.{ℕ, List, length, ap}
use Rattle.reactions.specs.Lines.{part_text}
use Rattle.reactions.proofs.FirstTexts.{one_first_more}
use Rattle.reactions.proofs.part_texts.PartTexts.new.Goals as goal

pub loop-number-preserved : goal.loop-number-preserved
loop-number-preserved c =
    one_first_more (part_text c.args.part c.args.texts.now) 4194304 c.loop-number.made _ c.in_ok-text.text c.loop-number.number c.loop-number.room _
    c.loop-number.invariant c.in_ok-push.ensures.ok c.in_ok-text.ensures (ap (λ (t : List ℕ). length t) c.bytes-size.ensures) c.if-size-room.false
