use Rattle.std.proofs.Common.{subst, ℕ, nat_eq, not, List, map, filter, length, ap, ◌∙◌}
use Rattle.std.specs.Map.Iter.{deref_pair}
use Rattle.std.proofs.lemmas.Map.Iter.{rest_more}
use Rattle.rsml_base.specs.Counting.{distinct, shown}
use Rattle.pair_counts.specs.Grouped.{places_at}
use Rattle.pair_counts.specs.Sets.{is_among, joined_at}
use Rattle.pair_counts.proofs.Sums.{seen, Counts, counts_start, counts_turn}
use Rattle.pair_counts.proofs.pairs.count_column_groups.Goals as goal

pub loop-number-init : goal.loop-number-init
loop-number-init c =
    let alone : ℕ × List ℕ → ℕ = λ g.
    length (distinct nat_eq (filter (λ n. not (is_among nat_eq (joined_at c.args.named_by.now (places_at c.args.lists_with.now g.0)) n)) (joined_at c.args.sets.now g.1))) in
    counts_start alone c.args.columns.now c.into_iter-number-iterator.result
    (ap (map seen) c.into_iter-number-iterator.ensures.into_iter_gives ∙ c.iter-number-items.ensures.groups)

pub loop-number-preserved : goal.loop-number-preserved
loop-number-preserved c =
    let alone : ℕ × List ℕ → ℕ = λ g.
    length (distinct nat_eq (filter (λ n. not (is_among nat_eq (joined_at c.args.named_by.now (places_at c.args.lists_with.now g.0)) n)) (joined_at c.args.sets.now g.1))) in
    let own = c.in-Some.own.now in
    let number = c.in-Some.number.now in
    let taken = rest_more deref_pair c.loop-number.number-iterator c.next.new.self c.next.result _ c.in-Some.is c.next.ensures.steps in
    counts_turn alone c.args.columns.now (number, own) c.next.new.self c.loop-number.sum c.in_ok-count_without.field-0 c.saturating_add-sum.result
    (subst (λ es. Counts alone c.args.columns.now es c.loop-number.sum) taken c.loop-number.invariant)
    (c.in_ok-count_without.ensures
    ∙ (λ i. shown (length (distinct nat_eq (filter (λ n. not (is_among nat_eq (joined_at c.args.named_by.now (c.places-others.ensures i)) n)) (joined_at c.args.sets.now (c.deref.ensures.value i)))))))
    c.saturating_add-sum.ensures
