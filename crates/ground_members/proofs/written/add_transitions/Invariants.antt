use Rattle.std.proofs.Common.{flat_map, take}
use Rattle.rsml_meaning.specs.Words.{numbered}
use Rattle.ground_members.specs.Written.{made_at, Adds}
use Rattle.ground_members.proofs.written.add_transitions.Given as goal

abbrev pub invariant-loop-place : goal.invariant-loop-place
invariant-loop-place l = Adds l.owner (λ g. flat_map (made_at g l.owner.path.now l.buses) (numbered (take l.place l.transitions))) l.initial.written.items l.written.items
