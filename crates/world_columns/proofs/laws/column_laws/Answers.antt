use Rattle.world_columns.proofs.Several.{inside, disjoint, more_is_exact, gaps_are_one}
use Rattle.world_columns.proofs.laws.column_laws.Goals as goal

pub returns-clause-inside : goal.returns-clause-inside
returns-clause-inside c = inside

pub returns-clause-disjoint : goal.returns-clause-disjoint
returns-clause-disjoint c = disjoint

pub returns-clause-more : goal.returns-clause-more
returns-clause-more c = more_is_exact

pub returns-clause-one : goal.returns-clause-one
returns-clause-one c = gaps_are_one c.worlds_are_ordered.ensures.total c.worlds_are_ordered.ensures.apart
