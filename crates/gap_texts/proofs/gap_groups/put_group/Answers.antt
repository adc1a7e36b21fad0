use Rattle.std.proofs.Common.{sym, ap, subst}
use Rattle.text_writer.proofs.WritingLemmas.{followed, alike}
use Rattle.world_columns.specs.declared.group.GroupGaps.{GroupGaps}
use Rattle.gap_texts.specs.Fitting.{FitsGroup}
use Rattle.gap_texts.specs.GapText.{group_gaps_text}
use Rattle.gap_texts.proofs.gap_groups.put_group.Goals as goal

pub put_gaps-requires-clause-columns : goal.put_gaps-requires-clause-columns
put_gaps-requires-clause-columns g c = subst (λ (t : GroupGaps). FitsGroup c.args.machine.now.base.spec t) c.in-Missing.is c.requires.columns

pub put_gaps-requires-in-Double-clause-columns : goal.put_gaps-requires-in-Double-clause-columns
put_gaps-requires-in-Double-clause-columns g c = subst (λ (t : GroupGaps). FitsGroup c.args.machine.now.base.spec t) c.in-Double.is c.requires.columns

pub returns-in-Missing : goal.returns-in-Missing
returns-in-Missing g c = λ x at.
    alike (ap (λ (t : GroupGaps). group_gaps_text c.args.machine.now.base.spec (x, t)) (sym c.in-Missing.is))
    (followed (c.put_head.ensures x at) c.put_gaps.ensures)

pub returns-in-Double : goal.returns-in-Double
returns-in-Double g c = λ x at.
    alike (ap (λ (t : GroupGaps). group_gaps_text c.args.machine.now.base.spec (x, t)) (sym c.in-Double.is))
    (followed (c.put_head-in-Double.ensures x at) c.put_gaps-in-Double.ensures)
