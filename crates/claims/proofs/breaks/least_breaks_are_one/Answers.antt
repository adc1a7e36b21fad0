use Rattle.claims.proofs.LeastBreaks.{moments_are_ordered, least_breaks_are_one}
use Rattle.claims.proofs.breaks.least_breaks_are_one.Goals as goal

pub returns-clause-total : goal.returns-clause-total
returns-clause-total c = moments_are_ordered

pub returns-clause-one : goal.returns-clause-one
returns-clause-one c = least_breaks_are_one
