use Rattle.std.proofs.Common.{◌≡◌, ℕ, ◌+◌, ◌<◌, ◌≤◌, get_or}
use Rattle.std.specs.List.{count_by}
use Rattle.and_or_tables.specs.Cells.{holds}
use Rattle.and_or_tables.proofs.counts.count_block.Given as goal

-- the columns so far are counted, and the others are as they were
abbrev pub invariant-loop-place : goal.invariant-loop-place
invariant-loop-place l = record {
  counted : (k : ℕ) → k < l.place → get_or l.counts k 0 ≡ get_or l.fn.counts k 0 + count_by (λ word. holds word l.care l.want k) l.words;
  kept : (k : ℕ) → l.place ≤ k → get_or l.counts k 0 ≡ get_or l.fn.counts k 0;
}
