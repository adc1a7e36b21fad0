use Rattle.std.proofs.Common.{◌≡◌, List, ◌*◌, ℤ, pos, neg_ℤ, ◌≤ℤ◌, take}
use Rattle.rsml_ground.specs.Truths.{sum_number}
use Rattle.phrase_builder.proofs.sums.total.Given as goal

abbrev pub invariant-loop-term : goal.invariant-loop-term
invariant-loop-term l = record {
  is : (cells : List ℤ) → sum_number cells (record { terms = take l.term-index l.terms }) ≡ l.total;
  low : neg_ℤ (pos (1000000000 * l.term-index)) ≤ℤ l.total;
  high : l.total ≤ℤ pos (1000000000 * l.term-index);
}
