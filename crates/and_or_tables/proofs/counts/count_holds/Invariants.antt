use Rattle.std.proofs.Common.{◌≡◌, ℕ, ◌+◌, ◌-◌, ◌<◌, ◌≤◌, cond, length, get_or}
use Rattle.and_or_tables.specs.Cells.{holds}
use Rattle.and_or_tables.proofs.counts.count_holds.Given as goal

-- the columns so far are counted, and the others are as they were
abbrev pub invariant-loop-at : goal.invariant-loop-at
invariant-loop-at l = record {
  within : l.at ≤ length l.care;
  counted : (k : ℕ) → k < l.at → get_or l.counts k 0 ≡ get_or l.fn.counts k 0 + cond (holds l.bits l.care l.want k) 1 0;
  kept : (k : ℕ) → l.at ≤ k → get_or l.counts k 0 ≡ get_or l.fn.counts k 0;
}

abbrev pub decreases-loop-at : goal.decreases-loop-at
decreases-loop-at l = length l.care - l.at
