use Rattle.std.proofs.Common.{take}
use Rattle.rsml_meaning.specs.Instances.{globals_of}
use Rattle.ground_members.specs.Members.{TransitionIs}
use Rattle.ground_members.specs.Written.{all_made_by}
use Rattle.ground_members.proofs.Staying.{IsSoFar}
use Rattle.ground_members.proofs.transitions.transitions_from.Given as goal

abbrev pub invariant-loop-one : goal.invariant-loop-one
invariant-loop-one l = IsSoFar TransitionIs l.lookup l.definitions l.initial.phrases l.phrases (all_made_by (globals_of l.lookup) (take l.one-index l.written)) l.transitions.items
