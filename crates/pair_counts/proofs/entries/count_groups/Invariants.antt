use Rattle.std.proofs.Common.{◌≡◌}
use Rattle.pair_counts.proofs.EntryLemmas.{of_group}
use Rattle.pair_counts.proofs.Sums.{Counts}
use Rattle.pair_counts.proofs.entries.count_groups.Given as goal

abbrev pub invariant-loop-fixed : goal.invariant-loop-fixed
invariant-loop-fixed l = Counts (of_group l.ranges l.sets.lists) l.groups l.fixed-iterator l.sum × (l.outside ≡ l.fn.outside)
