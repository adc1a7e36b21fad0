use Rattle.std.proofs.Common.{sym, ap, ◌∙◌}
use Rattle.std.specs.Option.{option_copied}
use Rattle.state_arrays.proofs.ArrayLemmas.{found_within}
use Rattle.state_arrays.proofs.instances.Instances.place.Goals as goal

pub returns-in-Some-clause-within : goal.returns-in-Some-clause-within
returns-in-Some-clause-within c =
    found_within c.self.inside.arrays _ c.args.name.now c.args.index c.in-Some.array.now _ _ c.self.invariant c.self.view_is (sym c.get.ensures.value ∙ ap (λ o. option_copied o) c.in-Some.is) c.place.ensures
