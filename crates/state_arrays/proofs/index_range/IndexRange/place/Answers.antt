use Rattle.state_arrays.proofs.RangeLemmas.{index_found, index_below, index_above}
use Rattle.state_arrays.proofs.index_range.IndexRange.place.Goals as goal
use Rattle.state_arrays.proofs.index_range.IndexRange.place.Goals.{else-self-index-via-then-self-index+else-index-self, else-self-index-via-else-self-index}

pub returns-then-index-self-clause-at : goal.returns-then-index-self-clause-at
returns-then-index-self-clause-at c = index_found c.args.index c.args.self.low c.args.self.high c.from.result c.if-self-index.true c.if-index-self.true c.from.ensures

pub returns-else-self-index-clause-at : goal.returns-else-self-index-clause-at
returns-else-self-index-clause-at c = elim c.else-self-index.branch [
  | else-self-index-via-then-self-index+else-index-self w ↦ index_above c.args.index c.args.self.low c.args.self.high c.args.self.some w.if-index-self.false
  | else-self-index-via-else-self-index w ↦ index_below c.args.index c.args.self.low c.args.self.high w.if-self-index.false
]
