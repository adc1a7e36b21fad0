-- The break that is made of what was found.
use Rattle.std.specs.Prelude.{◌≡◌, not, List, Some}
use Rattle.std.specs.List.{position_from}
use Rattle.rsml_ground.specs.Truths.{is_active}
use Rattle.elaborate.specs.Machine.{GroundMachine}
use Rattle.micro_step.specs.Numbers.{left_by, taken_at}
use Rattle.ground_claims.specs.declared.claim.GroundClaim.{GroundClaim}
use Rattle.ground_claims.specs.Truths.{claim_truth}
use Rattle.invariants.specs.declared.found.Found.{Found}
use Rattle.invariants.specs.declared.proof.Break.{Break}

-- The same event, round, set and world; the transitions that are taken; and the first claim that is false after them.
pub record IsBreakOf (m : GroundMachine) (claims : List GroundClaim) (f : Found) (b : Break) : Type 0 where
  pub start : b.start ≡ f.start
  pub round : b.round ≡ f.round
  pub present : b.present ≡ f.broken.events
  pub world : b.world ≡ f.broken.world
  pub taken : b.taken.items ≡ taken_at m b.world b.present
  pub claim : position_from (λ claim. not (claim_truth (is_active m.base.spec (left_by m b.world b.taken.items)) claim)) 0 claims ≡ Some b.claim
