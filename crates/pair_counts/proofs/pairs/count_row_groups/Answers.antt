use Rattle.std.proofs.Common.{nat_eq, map, length, ap, ◌∙◌}
use Rattle.rsml_base.specs.Counting.{distinct}
use Rattle.pair_counts.specs.Sets.{joined_at}
use Rattle.pair_counts.proofs.Sums.{seen, counts_start}
use Rattle.pair_counts.proofs.pairs.count_row_groups.Goals as goal

pub loop-places-init : goal.loop-places-init
loop-places-init c =
    counts_start (λ g. length (distinct nat_eq (joined_at c.args.sets.now g.1))) c.args.rows.now c.into_iter-places-iterator.result
    (ap (map seen) c.into_iter-places-iterator.ensures.into_iter_gives ∙ c.iter-places-items.ensures.groups)
