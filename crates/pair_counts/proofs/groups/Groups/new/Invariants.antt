use Rattle.std.proofs.Common.{◌≡◌, ℕ, take}
use Rattle.pair_counts.specs.Grouped.{places_of, places_at}
use Rattle.pair_counts.proofs.groups.Groups.new.Given as goal

abbrev pub invariant-loop-block : goal.invariant-loop-block
invariant-loop-block l = (fixed : ℕ) → places_at l.groups fixed ≡ places_of (take l.block-index l.blocks) fixed
