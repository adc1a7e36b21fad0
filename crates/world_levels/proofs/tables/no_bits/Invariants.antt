use Rattle.std.proofs.Common.{◌≡◌, [], replicate}
use Rattle.world_levels.proofs.tables.no_bits.Given as goal

abbrev pub invariant-loop-part : goal.invariant-loop-part
invariant-loop-part l = l.bits.items ≡ replicate l._part []
