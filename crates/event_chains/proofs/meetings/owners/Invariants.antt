use Rattle.std.proofs.Common.{◌≡◌, ℕ, ◌<◌, Some, slice_get}
use Rattle.event_chains.specs.declared.reaction.Reaction.{Reaction}
use Rattle.event_chains.proofs.meetings.owners.Given as goal

abbrev pub invariant-loop-reaction : goal.invariant-loop-reaction
invariant-loop-reaction l = (k : ℕ) (r : Reaction) → k < l.reaction-index → slice_get l.reactions k ≡ Some r → r.owner < l.owners
