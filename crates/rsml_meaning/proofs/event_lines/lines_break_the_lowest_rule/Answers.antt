use Rattle.rsml_meaning.proofs.LineRules.{lines_break_rules, lines_tell_events}
use Rattle.rsml_meaning.proofs.event_lines.lines_break_the_lowest_rule.Goals as goal

pub returns-clause-breaks : goal.returns-clause-breaks
returns-clause-breaks c = lines_break_rules

pub returns-clause-tells : goal.returns-clause-tells
returns-clause-tells c = lines_tell_events
