use Rattle.std.proofs.Common.{take}
use Rattle.std.specs.List.{AllZip}
use Rattle.ground_claims.specs.StandsFor.{ClaimIs}
use Rattle.ground_claims.proofs.grounding.all_ground.Given as goal

abbrev pub invariant-loop-claim : goal.invariant-loop-claim
invariant-loop-claim l = AllZip (ClaimIs l.lookup) (take l.claim-index l.claims) l.ground.items
