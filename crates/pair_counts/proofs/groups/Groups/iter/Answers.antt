use Rattle.std.proofs.Common.{ℕ, List, nat_eq, map, sym, ap, ◌∙◌, subst}
use Rattle.std.specs.List.{IsDistinct}
use Rattle.pair_counts.proofs.GroupLemmas.{keys_seen}
use Rattle.pair_counts.proofs.groups.Groups.iter.Goals as goal

pub returns-clause-differ : goal.returns-clause-differ
returns-clause-differ c =
    subst (IsDistinct nat_eq) (sym (keys_seen c.self.inside.places.entries) ∙ ap (λ (gs : List (ℕ × List ℕ)). map (λ g. g.0) gs) c.self.view_is) c.iter.ensures.unique
