use Rattle.std.proofs.Common.{refl, [], ◌∷◌}
use Rattle.event_graph.specs.Sets.{has}
use Rattle.event_graph.proofs.BitLemmas.{none_is}
use Rattle.event_graph.proofs.events.Events.clear.Goals as goal

pub returns : goal.returns
unfolding has
returns c = λ q. none_is (0 ∷ 0 ∷ 0 ∷ 0 ∷ 0 ∷ 0 ∷ 0 ∷ 0 ∷ 0 ∷ 0 ∷ 0 ∷ 0 ∷ 0 ∷ 0 ∷ 0 ∷ 0 ∷ []) refl q
