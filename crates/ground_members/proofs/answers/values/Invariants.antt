use Rattle.std.proofs.Common.{take}
use Rattle.std.specs.List.{AllZip}
use Rattle.rsml_meaning.specs.Truth.{within}
use Rattle.ground_members.specs.Members.{ValueIs}
use Rattle.ground_members.proofs.answers.values.Given as goal

abbrev pub invariant-loop-one : goal.invariant-loop-one
invariant-loop-one l = AllZip (ValueIs l.lookup (within l.this)) (take l.one-index l.written) l.values
