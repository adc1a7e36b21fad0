use Rattle.std.proofs.Common.{sym, ap, ◌∙◌}
use Rattle.std.specs.Option.{option_copied}
use Rattle.state_arrays.proofs.WalkLemmas.{place_known}
use Rattle.state_arrays.proofs.paths.Paths.path.Goals as goal

pub returns-in_ok-copied-in-Some-clause-place : goal.returns-in_ok-copied-in-Some-clause-place
returns-in_ok-copied-in-Some-clause-place c =
    place_known c.self.inside.nodes c.args.self.now c.args.node c.in_ok-copied-in-Some.field-0 c.in-Some.steps.now c.self.invariant.tree c.self.view_is
    (sym (ap (λ o. option_copied o) c.in-Some.is) ∙ c.path.ensures) c.in_ok-copied-in-Some.ensures
