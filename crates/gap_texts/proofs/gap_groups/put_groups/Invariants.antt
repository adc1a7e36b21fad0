use Rattle.std.proofs.Common.{flat_map, take, zip}
use Rattle.rsml_meaning.specs.Groups.{groups}
use Rattle.text_writer.specs.Writes.{Writes}
use Rattle.gap_texts.specs.GapText.{group_gaps_text}
use Rattle.gap_texts.proofs.gap_groups.put_groups.Given as goal

abbrev pub invariant-loop-group : goal.invariant-loop-group
invariant-loop-group g l =
    Writes (g.W.Writer.state l.fn.writer) (g.W.Writer.text l.fn.writer)
    (flat_map (group_gaps_text l.machine.base.spec) (take l.group (zip (groups l.machine.base.spec) l.told)))
    (g.W.Writer.state l.writer) (g.W.Writer.text l.writer)
