use Rattle.reactions.specs.Lines.{part_text}
use Rattle.reactions.proofs.FirstTexts.{AreFirst}
use Rattle.reactions.proofs.part_texts.PartTexts.new.Given as goal

abbrev pub invariant-loop-number : goal.invariant-loop-number
invariant-loop-number l = AreFirst (part_text l.part l.texts) 4194304 l.made l.number l.room
