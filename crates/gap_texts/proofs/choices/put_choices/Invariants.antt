use Rattle.std.proofs.Common.{flat_map, take, zip}
use Rattle.rsml_meaning.specs.Instances.{components}
use Rattle.text_writer.specs.Writes.{Writes}
use Rattle.gap_texts.specs.GapText.{choice_row}
use Rattle.gap_texts.proofs.choices.put_choices.Given as goal

abbrev pub invariant-loop-component : goal.invariant-loop-component
invariant-loop-component g l =
    Writes (g.W.Writer.state l.fn.writer) (g.W.Writer.text l.fn.writer)
    (flat_map choice_row (take l.component (zip (components l.tree) l.children)))
    (g.W.Writer.state l.writer) (g.W.Writer.text l.writer)
