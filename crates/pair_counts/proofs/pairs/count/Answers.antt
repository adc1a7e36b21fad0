use Rattle.std.proofs.Common.{nat_eq, ℕ, List, [], length, ap, sym, ◌∙◌}
use Rattle.std.specs.Cmp.{nat_eq_equiv}
use Rattle.rsml_base.specs.Counting.{distinct, shown}
use Rattle.pair_counts.specs.Sets.{is_among, joined_at}
use Rattle.pair_counts.proofs.CountLemmas.{among_alike, count_is, whole_has, whole_differs, none_in_none, filter_true}
use Rattle.pair_counts.proofs.pairs.count.Goals as goal

pub returns : goal.returns
returns c =
    let sets = c.args.sets.now in
    let own = joined_at sets c.args.places.now in
    c.count_without-2.ensures
    ∙ ap shown
    (count_is nat_eq nat_eq_equiv sets.numbers own (is_among nat_eq []) c.in_ok-numbers.numbers c.new.result (among_alike nat_eq nat_eq_equiv [])
    (whole_differs nat_eq nat_eq_equiv sets c.requires) (whole_has nat_eq nat_eq_equiv sets c.args.places.now c.requires)
    c.in_ok-numbers.ensures (λ q. c.new.ensures q ∙ sym (none_in_none nat_eq nat_eq_equiv sets.numbers q))
    ∙ ap (λ (ns : List ℕ). length (distinct nat_eq ns)) (filter_true own))
