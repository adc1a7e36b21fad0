use Rattle.std.proofs.Common.{◌≡◌, ◌≤◌, ◌*◌, map, take}
use Rattle.std.specs.List.{sum_by}
use Rattle.coverage.specs.Text.{zeros_in}
use Rattle.coverage.proofs.texts.zeros.Given as goal

abbrev pub invariant-loop-counter : goal.invariant-loop-counter
invariant-loop-counter l = record {
  counted : l.zeros ≡ sum_by zeros_in (map (λ k. k.tally) (take l.counter-index l.counters));
  few : l.zeros ≤ 33 * l.counter-index;
}
