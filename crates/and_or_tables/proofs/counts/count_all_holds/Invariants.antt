use Rattle.std.proofs.Common.{◌≡◌, ℕ, ◌+◌, ◌-◌, ◌<◌, ◌≤◌, length, get_or, take}
use Rattle.std.specs.List.{count_by}
use Rattle.and_or_tables.specs.Cells.{holds}
use Rattle.and_or_tables.proofs.counts.count_all_holds.Given as goal

-- the words so far are counted
abbrev pub invariant-loop-at : goal.invariant-loop-at
invariant-loop-at l = record {
  within : l.at ≤ length l.words;
  counted : (k : ℕ) → k < length l.care → get_or l.counts k 0 ≡ get_or l.fn.counts k 0 + count_by (λ word. holds word l.care l.want k) (take l.at l.words);
}

abbrev pub decreases-loop-at : goal.decreases-loop-at
decreases-loop-at l = length l.words - l.at
