use Rattle.std.proofs.Common.{◌≡◌, map, take}
use Rattle.event_chains.specs.Reactions.{send_of}
use Rattle.event_chains.proofs.reaction.sends.Given as goal

abbrev pub invariant-loop-case : goal.invariant-loop-case
invariant-loop-case l = l.reactions.items ≡ map send_of (take l.case-index l.send_cases)
