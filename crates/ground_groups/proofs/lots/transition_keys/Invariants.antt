use Rattle.std.proofs.Common.{◌≡◌, map, take}
use Rattle.ground_groups.proofs.lots.transition_keys.Given as goal

abbrev pub invariant-loop-transition : goal.invariant-loop-transition
invariant-loop-transition l = l.keys.items ≡ map (λ t. record { owner = t.source; event = t.event }) (take l.transition-index l.transitions)
