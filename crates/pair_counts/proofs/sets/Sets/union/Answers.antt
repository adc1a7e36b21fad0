use Rattle.std.proofs.Common.{List, ap, ◌∙◌}
use Rattle.std.specs.List.{list_any}
use Rattle.std.proofs.lemmas.Result.{IfOk-weaker}
use Rattle.pair_counts.specs.declared.set.Set.{Set}
use Rattle.pair_counts.specs.Has.{has_at}
use Rattle.pair_counts.specs.Sets.{Sets, is_in, joined_at}
use Rattle.pair_counts.proofs.SetLemmas.{in_joined}
use Rattle.pair_counts.proofs.sets.Sets.union.Goals as goal

pub returns : goal.returns
returns g c = IfOk-weaker c.union.result _ _
    (λ bits h q.
    h q
    ∙ ap (λ (sets : List Set). list_any (λ place. has_at sets place q) c.args.places.now) c.as_slice.ensures.value
    ∙ in_joined g.T.PartialEq.eq g.met.T.Eq.laws _ _ c.self.inside.sets.items c.self.invariant c.args.places.now q
    ∙ ap (λ (s : Sets g.row.T.Denot). is_in g.T.PartialEq.eq s.numbers (joined_at s c.args.places.now) q) c.self.view_is)
    c.union.ensures
