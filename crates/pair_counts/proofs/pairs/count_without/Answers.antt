use Rattle.std.proofs.Common.{ℕ, nat_eq, List, ap, ◌∙◌}
use Rattle.std.specs.Cmp.{nat_eq_equiv}
use Rattle.rsml_base.specs.Counting.{shown}
use Rattle.pair_counts.specs.Sets.{is_among, is_in, joined_at}
use Rattle.pair_counts.proofs.CountLemmas.{among_alike, count_is, whole_has, whole_differs}
use Rattle.pair_counts.proofs.pairs.count_without.Goals as goal

pub returns : goal.returns
returns c =
    let sets = c.args.sets.now in
    let others = joined_at c.args.other_sets.now c.args.other_places.now in
    c.count_without.ensures
    ∙ ap shown
    (count_is nat_eq nat_eq_equiv sets.numbers (joined_at sets c.args.places.now) (is_among nat_eq others) c.in_ok-own.own c.in_ok-others.others (among_alike nat_eq nat_eq_equiv others)
    (whole_differs nat_eq nat_eq_equiv sets c.requires.whole) (whole_has nat_eq nat_eq_equiv sets c.args.places.now c.requires.whole)
    c.in_ok-own.ensures (λ q. c.in_ok-others.ensures q ∙ ap (λ (ns : List ℕ). is_in nat_eq ns others q) c.requires.same))
