use Rattle.std.proofs.Common.{◌≡◌, ◌≤◌, length, drop, map}
use Rattle.std.specs.Simd.Lanes.{mask_l}
use Rattle.and_or_tables.specs.Ground.{known}
use Rattle.and_or_tables.proofs.fast.gathered.Given as goal

-- the truths of the phrases from k on
abbrev pub invariant-loop-k : goal.invariant-loop-k
invariant-loop-k l = record {
  within : l.k ≤ length l.phrases;
  gathered : l.bits ≡ mask_l (map (known l.truths) (drop l.k l.phrases));
}

abbrev pub decreases-loop-k : goal.decreases-loop-k
decreases-loop-k l = l.k
