use Rattle.std.proofs.Common.{sym, ◌∙◌}
use Rattle.event_lines.proofs.WordLemmas.{low_blank, none_low}
use Rattle.event_lines.proofs.words.width.Goals as goal

pub returns-then-is_blank-clause-is : goal.returns-then-is_blank-clause-is
returns-then-is_blank-clause-is c = low_blank c.args.text.now c.in-Some.place c.in-Some.ensures (sym c.is_blank.ensures ∙ c.if-is_blank.true)

pub returns-in-None-clause-is : goal.returns-in-None-clause-is
returns-in-None-clause-is c = none_low c.args.text.now c.in-None.ensures
