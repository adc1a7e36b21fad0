use Rattle.std.proofs.Common.{◌≤◌, length, ◌≡◌}
use Rattle.keyed_levels.specs.Stored.{IsPaired}
use Rattle.keyed_levels.proofs.order.paired.Given as goal

-- pairs, one for each place so far at which there is a phrase
abbrev pub invariant-loop-place : goal.invariant-loop-place
invariant-loop-place l = record {
  pairs : IsPaired l.levels l.phrases l.keyed.items;
  count : l.place ≤ length l.phrases → length l.keyed.items ≡ l.place;
}
