use Rattle.ground_claims.specs.StandsFor.{ClaimIs}
use Rattle.phrase_builder.proofs.Lists.{zip_turn}
use Rattle.ground_claims.proofs.grounding.all_ground.Goals as goal

pub loop-claim-preserved : goal.loop-claim-preserved
loop-claim-preserved c =
    zip_turn (ClaimIs c.args.lookup.now) (ClaimIs c.args.lookup.now) (λ x y e. e) c.args.claims.now c.loop-claim.claim-index c.claim-item.result c.in_ok-claim.claim c.loop-claim.ground.items c.push.new.self.items
    c.in_ok-push.ensures.items c.loop-claim-test.true c.claim-item.is c.loop-claim.invariant c.in_ok-claim.ensures
