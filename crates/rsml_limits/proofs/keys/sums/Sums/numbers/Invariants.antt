use Rattle.std.proofs.Common.{◌≡◌, ◌++◌, map, length, slice_get}
use Rattle.std.specs.Vec.Iter.{into_iter_items, into_iter_len}
use Rattle.rsml_limits.specs.comparisons.Shown.{shown_sum}
use Rattle.rsml_limits.specs.keys.Classes.{linear}
use Rattle.rsml_limits.specs.keys.Numbered.{Extends}
use Rattle.rsml_limits.specs.keys.Shown.{shown_order}
use Rattle.rsml_limits.proofs.NumberLemmas.{stands}
use Rattle.rsml_limits.proofs.keys.sums.Sums.numbers.Given as goal

abbrev pub invariant-loop-terms : goal.invariant-loop-terms
invariant-loop-terms l = record {
  left : into_iter_len l.terms-iterator ≡ length (into_iter_items l.terms-iterator);
  grows : Extends l.fn.self l.self;
  numbered :
      map (slice_get l.self) l.numbers.items ++ map (stands (shown_order l.order)) (linear l.class (map (λ terms. shown_sum terms.items) (into_iter_items l.terms-iterator)))
      ≡ map (stands (shown_order l.order)) (linear l.class (map (λ terms. shown_sum terms.items) l.fn.sums.items));
}
