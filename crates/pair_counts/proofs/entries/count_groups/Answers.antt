use Rattle.std.proofs.Common.{refl, map, ap, ◌∙◌}
use Rattle.pair_counts.proofs.EntryLemmas.{of_group}
use Rattle.pair_counts.proofs.Sums.{seen, counts_start}
use Rattle.pair_counts.proofs.entries.count_groups.Goals as goal

pub loop-fixed-init : goal.loop-fixed-init
loop-fixed-init c = (
  counts_start (of_group c.args.ranges.now c.args.sets.now.lists) c.args.groups.now c.into_iter-fixed-iterator.result
      (ap (map seen) c.into_iter-fixed-iterator.ensures.into_iter_gives ∙ c.iter-fixed-items.ensures.groups),
  refl,
)
