use Rattle.std.proofs.Common.{◌≡◌, ◌*◌, ◌≤ℤ◌, ◌+ℤ◌, [], pos, neg_ℤ, fold, drop}
use Rattle.rsml_ground.specs.Truths.{term_number, sum_number}
use Rattle.settled_worlds.proofs.rows.constant.Given as goal

-- the sum of all numbers is the total and the numbers to come
abbrev pub invariant-loop-term : goal.invariant-loop-term
invariant-loop-term l = record {
  whole : fold (λ a t. a +ℤ term_number [] t) l.total (drop l.term-index l.sum.terms) ≡ sum_number [] l.sum;
  low : neg_ℤ (pos (1000000000 * l.term-index)) ≤ℤ l.total;
  high : l.total ≤ℤ pos (1000000000 * l.term-index);
}
