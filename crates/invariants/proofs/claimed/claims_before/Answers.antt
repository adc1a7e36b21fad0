use Rattle.std.proofs.Common.{[], Bool, take, subst}
use Rattle.std.proofs.lemmas.List.{take_all}
use Rattle.rsml_syntax.specs.declared.world.World.{World}
use Rattle.ground_claims.specs.declared.claim.GroundClaim.{GroundClaim}
use Rattle.guard_encode.proofs.StepLemmas.{keeps_on}
use Rattle.invariants.specs.Told.{TellsOf, TellClaims, true_after}
use Rattle.invariants.proofs.MoveLemmas.{none_leaves}
use Rattle.invariants.proofs.ToldLemmas.{all_on, zip_more}
use Rattle.invariants.proofs.claimed.claims_before.Goals as goal

pub claim_after-requires-clause-moves : goal.claim_after-requires-clause-moves
claim_after-requires-clause-moves c = none_leaves c.args.machine.now

pub loop-claim-preserved : goal.loop-claim-preserved
loop-claim-preserved c =
    let m = c.args.machine.now in
    let s = m.base.spec in
    let old = c.loop-claim.encoder in
    let new = c.claim_after.new.encoder in
    let truth : GroundClaim → World → Bool = true_after m [] in
    record {
      keeps = keeps_on c.args.encoder.now old new c.loop-claim.invariant.keeps c.in_ok-before.ensures.keeps;
      told = zip_more (λ x r. TellsOf s new (truth x) r) c.args.claims.now c.loop-claim.claim-index c.claim-item.result c.loop-claim.found.items c.push.new.self.items c.in_ok-before.before
          c.loop-claim-test.true c.claim-item.is c.in_ok-push.ensures.items (all_on s old new truth (take c.loop-claim.claim-index c.args.claims.now) c.loop-claim.found.items c.in_ok-before.ensures.keeps c.loop-claim.invariant.told)
          c.in_ok-before.ensures.answer;
    }

pub returns-clause-answer : goal.returns-clause-answer
returns-clause-answer c =
    let m = c.args.machine.now in
    subst (λ xs. TellClaims m c.loop-claim.encoder [] xs c.loop-claim.found.items)
    (take_all c.loop-claim.claim-index c.args.claims.now c.loop-claim-test.false) c.loop-claim.invariant.told
