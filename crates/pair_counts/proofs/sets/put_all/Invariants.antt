use Rattle.std.proofs.Common.{◌≡◌, take}
use Rattle.indexmap.specs.IndexSet.{insert_all}
use Rattle.pair_counts.proofs.sets.put_all.Given as goal

abbrev pub invariant-loop-number : goal.invariant-loop-number
invariant-loop-number g l = l.numbers.keys ≡ insert_all g.T.PartialEq.eq l.fn.numbers.keys (take l.number-index l.more)
