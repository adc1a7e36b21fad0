use Rattle.elaborate.proofs.Enabled.{members_are_enabled, counts_are}
use Rattle.elaborate.proofs.laws.members_are_enabled_as_in_the_text.Goals as goal

pub returns-clause-each : goal.returns-clause-each
returns-clause-each c = members_are_enabled

pub returns-clause-count : goal.returns-clause-count
returns-clause-count c = counts_are
