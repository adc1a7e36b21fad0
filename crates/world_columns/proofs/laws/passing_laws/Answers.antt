use Rattle.world_columns.proofs.Passing.{lying_is_passing, one_after_another}
use Rattle.world_columns.proofs.laws.passing_laws.Goals as goal

pub returns-clause-lying : goal.returns-clause-lying
returns-clause-lying c = lying_is_passing

pub returns-clause-split : goal.returns-clause-split
returns-clause-split c = one_after_another
