use Rattle.std.proofs.Common.{length, nat_eq, not, filter}
use Rattle.rsml_base.specs.Counting.{distinct}
use Rattle.pair_counts.specs.Grouped.{places_at}
use Rattle.pair_counts.specs.Sets.{is_among, joined_at}
use Rattle.pair_counts.proofs.Sums.{Counts}
use Rattle.pair_counts.proofs.pairs.count_column_groups.Given as goal

abbrev pub invariant-loop-number : goal.invariant-loop-number
invariant-loop-number l =
    Counts (λ g. length (distinct nat_eq (filter (λ n. not (is_among nat_eq (joined_at l.named_by (places_at l.lists_with g.0)) n)) (joined_at l.sets g.1)))) l.columns l.number-iterator l.sum
