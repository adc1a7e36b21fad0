use Rattle.std.proofs.Common.{◌≡◌, map, take}
use Rattle.pair_counts.specs.declared.blocks.Block.{Block}
use Rattle.pair_counts.proofs.inverse.swapped.Given as goal

abbrev pub invariant-loop-block : goal.invariant-loop-block
invariant-loop-block l = l.swapped.items ≡ map (λ (x : Block). record { fixed = x.list; list = x.fixed }) (take l.block-index l.blocks)
