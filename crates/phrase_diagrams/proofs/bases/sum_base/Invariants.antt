use Rattle.std.proofs.Common.{◌≡◌, ◌*◌, ◌≤ℤ◌, ◌+ℤ◌, pos, neg_ℤ, fold, drop}
use Rattle.phrase_diagrams.specs.Terms.{term_base, sum_base}
use Rattle.phrase_diagrams.proofs.bases.sum_base.Given as goal

-- the sum of all terms is the total and the terms to come
abbrev pub invariant-loop-term : goal.invariant-loop-term
invariant-loop-term l = record {
  whole : fold (λ a t. a +ℤ term_base l.layout.spec t) l.total (drop l.term-index l.sum.terms) ≡ sum_base l.layout.spec l.sum;
  low : neg_ℤ (pos (1000000000 * l.term-index)) ≤ℤ l.total;
  high : l.total ≤ℤ pos (1000000000 * l.term-index);
}
