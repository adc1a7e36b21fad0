use Rattle.std.proofs.Common.{length, nat_eq}
use Rattle.rsml_base.specs.Counting.{distinct}
use Rattle.pair_counts.specs.Sets.{joined_at}
use Rattle.pair_counts.proofs.Sums.{Counts}
use Rattle.pair_counts.proofs.pairs.count_row_groups.Given as goal

abbrev pub invariant-loop-places : goal.invariant-loop-places
invariant-loop-places l = Counts (λ g. length (distinct nat_eq (joined_at l.sets g.1))) l.rows l.places-iterator l.sum
