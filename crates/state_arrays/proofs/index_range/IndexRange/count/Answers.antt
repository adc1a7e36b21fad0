use Rattle.state_arrays.proofs.RangeLemmas.{range_count}
use Rattle.state_arrays.proofs.index_range.IndexRange.count.Goals as goal

pub returns-clause-is : goal.returns-clause-is
returns-clause-is c = range_count c.args.self.low c.args.self.high c.from.result c.args.self.some c.from.ensures
