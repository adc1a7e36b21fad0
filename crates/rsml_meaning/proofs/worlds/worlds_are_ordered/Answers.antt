use Rattle.rsml_meaning.proofs.Order.{worlds_are_apart}
use Rattle.rsml_meaning.proofs.Order.{worlds_are_ordered}
use Rattle.rsml_meaning.proofs.worlds.worlds_are_ordered.Goals as goal

pub returns-clause-total : goal.returns-clause-total
returns-clause-total c = worlds_are_ordered

pub returns-clause-apart : goal.returns-clause-apart
returns-clause-apart c = worlds_are_apart
