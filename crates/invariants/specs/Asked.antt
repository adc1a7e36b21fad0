-- What is asked of a set of events.
use Rattle.std.specs.Prelude.{Bool, not, ◌&&◌, ℕ, List}
use Rattle.std.specs.List.{list_all}
use Rattle.rsml_syntax.specs.declared.syntax.Spec.{Spec}
use Rattle.rsml_syntax.specs.declared.world.World.{World}
use Rattle.rsml_ground.specs.Truths.{is_active}
use Rattle.elaborate.specs.Machine.{GroundMachine}
use Rattle.ground_claims.specs.declared.claim.GroundClaim.{GroundClaim}
use Rattle.ground_claims.specs.Truths.{claim_truth}
use Rattle.invariants.specs.Moves.{after, moves_on}

-- all claims are true in a world
abbrev pub all_hold : Spec → List GroundClaim → World → Bool
all_hold s claims w = list_all (claim_truth (is_active s w)) claims

-- all claims are true in a world, and not all after these transitions
abbrev pub turn_false : GroundMachine → List GroundClaim → List ℕ → World → Bool
turn_false m claims moves w = all_hold m.base.spec claims w && not (all_hold m.base.spec claims (after m moves w))

-- all are true in a world, and not all after a micro-step on these events
abbrev pub breaks : GroundMachine → List GroundClaim → (ℕ → Bool) → World → Bool
breaks m claims present = turn_false m claims (moves_on m present)
