use Rattle.std.proofs.Common.{◌≡◌, ◌||◌, List, ℕ, false, Option, Some, None, refl, ap, sym, ◌∙◌}
use Rattle.std.specs.Option.{is_some}
use Rattle.pair_counts.specs.Has.{has_place}
use Rattle.pair_counts.proofs.SetLemmas.{at_place, none_in, nothing_more, place_last}
use Rattle.pair_counts.proofs.set.put.Goals as goal

pub returns-in_ok-push : goal.returns-in_ok-push
returns-in_ok-push g c = λ q.
    ap (λ (ps : List ℕ). has_place ps q) c.in_ok-push.ensures.items
    ∙ place_last c.args.places.now.items c.in-Some.place q
    ∙ ap (λ b. has_place c.args.places.now.items q || b)
    (at_place g.T.PartialEq.eq g.met.T.Eq.laws c.args.numbers.now.keys c.args.number c.in-Some.place c.requires
    (sym c.get_index_of.ensures.index ∙ c.in-Some.is) (sym c.get_index_of.ensures.found ∙ ap is_some c.in-Some.is) q)

pub returns-in_default : goal.returns-in_default
returns-in_default g c = λ q.
    nothing_more (has_place c.args.places.now.items q) _
    (none_in g.T.PartialEq.eq g.met.T.Eq.laws c.args.numbers.now.keys c.args.number q (sym c.get_index_of.ensures.found ∙ none c.get_index_of.result c.in_default.not-Some))
  where
    none : (r : Option ℕ) → ((x : ℕ) → r ≡ Some x → ⊥) → is_some r ≡ false
    none None h = refl
    none (Some x) h = absurd (h x refl)
