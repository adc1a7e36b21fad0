use Rattle.std.proofs.Common.{◌≡◌, ◌≤◌, ◌==◌, count_by, take}
use Rattle.coverage.proofs.tally.zeros.Given as goal

abbrev pub invariant-loop-count : goal.invariant-loop-count
invariant-loop-count l = record {
  counted : l.zeros ≡ count_by (λ n. n == 0) (take l.count-index l.counts);
  few : l.zeros ≤ l.count-index;
}
