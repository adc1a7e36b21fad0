use Rattle.std.proofs.Common.{◌≡◌, ℕ, ◌+◌, ◌<◌, ◌≤◌, cond, get_or}
use Rattle.and_or_tables.specs.Cells.{holds}
use Rattle.and_or_tables.proofs.counts.count_rest.Given as goal

-- the columns so far are counted, and the others are as they were
abbrev pub invariant-loop-place : goal.invariant-loop-place
invariant-loop-place l = record {
  below : (k : ℕ) → k < l.from → get_or l.counts k 0 ≡ get_or l.fn.counts k 0;
  counted : (k : ℕ) → l.from ≤ k → k < l.place → get_or l.counts k 0 ≡ get_or l.fn.counts k 0 + cond (holds l.bits l.care l.want k) 1 0;
  kept : (k : ℕ) → l.place ≤ k → get_or l.counts k 0 ≡ get_or l.fn.counts k 0;
}
