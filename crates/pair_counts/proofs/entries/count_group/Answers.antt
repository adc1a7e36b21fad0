use Rattle.std.proofs.Common.{◌≡◌, ℤ, List, Option, Some, ◌*◌, ◌&&◌, not, int_lt, int_le, slice_get, false, length, filter, ap, sym, ◌∙◌}
use Rattle.std.specs.Cmp.{int_eq_equiv}
use Rattle.std.specs.Option.{option_map_or}
use Rattle.std.specs.Ordering.{int_eq}
use Rattle.std.proofs.lemmas.Option.{slice_get-get_or}
use Rattle.std.proofs.lemmas.Result.{IfOk-weaker}
use Rattle.rsml_base.specs.Counting.{distinct, shown}
use Rattle.pair_counts.specs.declared.blocks.Range.{Range}
use Rattle.pair_counts.specs.Bits.{bit, one, adds_below}
use Rattle.pair_counts.specs.Outside.{is_outside}
use Rattle.pair_counts.specs.Sets.{passes_at, joined_at}
use Rattle.pair_counts.proofs.CountLemmas.{count_failing, whole_has, whole_differs, filter_not_not}
use Rattle.pair_counts.proofs.EntryLemmas.{none_within, outside_alike}
use Rattle.pair_counts.proofs.entries.count_group.Goals as goal

pub returns-in_ok-own-in-Some-clause-count : goal.returns-in_ok-own-in-Some-clause-count
returns-in_ok-own-in-Some-clause-count c =
    let own = c.in_ok-own-in-Some.own in
    let sets = c.args.sets.now in
    let range = c.in-Some.range.now in
    let numbers = joined_at sets c.args.places.now in
    let is : Some range ≡ slice_get c.args.ranges.now c.args.fixed = ap (λ (r : Range). Some r) (c.in-Some.ensures.lookup.3.1 range) ∙ sym (slice_get-get_or c.args.ranges.now c.args.fixed range c.in-Some.ensures.lookup.3.0) in
    let counted =
    ap (λ (ns : List ℤ). adds_below (λ q. one (bit own q && not (passes_at (is_outside range) ns q))) (64 * length own)) c.requires.same
    ∙ count_failing int_eq int_eq_equiv sets.numbers numbers (is_outside range) own (outside_alike range)
    (whole_differs int_eq int_eq_equiv sets c.requires.whole) (whole_has int_eq int_eq_equiv sets c.args.places.now c.requires.whole) c.in_ok-own-in-Some.ensures
    ∙ ap (λ (ns : List ℤ). length (distinct int_eq ns))
    (filter_not_not (λ n. int_lt range.low n && int_le n range.high) numbers
    ∙ ap (λ (o : Option Range). filter (λ n. option_map_or (λ r. int_lt r.low n && int_le n r.high) o false) numbers) is) in
    IfOk-weaker c.count_within.result _ _ (λ count h. h ∙ ap shown counted) c.count_within.ensures.count

pub returns-in-None-clause-count : goal.returns-in-None-clause-count
returns-in-None-clause-count c =
    ap (λ (ns : List ℤ). shown (length (distinct int_eq ns))) (sym (none_within c.args.ranges.now c.args.fixed (joined_at c.args.sets.now c.args.places.now) c.in-None.ensures.lookup.3))
