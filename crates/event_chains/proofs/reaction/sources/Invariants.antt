use Rattle.std.proofs.Common.{◌≡◌, map, take}
use Rattle.event_chains.specs.Reactions.{source_of}
use Rattle.event_chains.proofs.reaction.sources.Given as goal

abbrev pub invariant-loop-transition : goal.invariant-loop-transition
invariant-loop-transition l = l.reactions.items ≡ map source_of (take l.transition-index l.transitions)
