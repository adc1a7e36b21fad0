use Rattle.std.proofs.Common.{length, sym, ap, ◌∙◌}
use Rattle.rsml_meaning.specs.Instances.{events}
use Rattle.elaborate.proofs.behaviour.Behaviour.new.Goals as goal

pub new-requires-clause-events : goal.new-requires-clause-events
new-requires-clause-events c = c.requires.events ∙ ap (λ s. length (events s)) (sym c.spec.ensures.same)
