use Rattle.std.proofs.Common.{◌≡◌, ◌++◌, map, take}
use Rattle.pair_counts.proofs.inverse.put_list.Given as goal

abbrev pub invariant-loop-number : goal.invariant-loop-number
invariant-loop-number l = l.blocks.items ≡ l.fn.blocks.items ++ map (λ n. record { fixed = n; list = l.place }) (take l.number-index l.list)
