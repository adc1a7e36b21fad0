use Rattle.std.proofs.Common.{true, not, sym, ap, ◌∙◌, arith}
use Rattle.rsml_ground.specs.Truths.{is_active}
use Rattle.ground_claims.specs.Truths.{claim_truth}
use Rattle.ground_claims.specs.declared.claim.GroundClaim.{GroundClaim}
use Rattle.invariants.proofs.FirstLemmas.{first_at, first_later, first_none}
use Rattle.invariants.proofs.proving.first_false.Goals as goal

pub returns-then-not-is_true : goal.returns-then-not-is_true
returns-then-not-is_true c =
    let t = λ (claim : GroundClaim). not (claim_truth (is_active c.args.tree.now c.args.world.now) claim) in
    sym (first_at t c.args.claims.now c.loop-place.place c.loop-place.place c.index-claims-place.result c.loop-place-test.true c.index-claims-place.is
    (ap not (sym c.is_true.ensures ∙ c.if-not-is_true.true)))
    ∙ c.loop-place.invariant

pub loop-place-preserved : goal.loop-place-preserved
loop-place-preserved c =
    let t = λ (claim : GroundClaim). not (claim_truth (is_active c.args.tree.now c.args.world.now) claim) in
    sym (first_later t c.args.claims.now c.loop-place.place c.loop-place.place c.index-claims-place.result c.loop-place-test.true c.index-claims-place.is
    (ap not (sym c.is_true.ensures ∙ c.if-not-is_true.false)))
    ∙ c.loop-place.invariant

pub returns : goal.returns
returns c =
    let t = λ (claim : GroundClaim). not (claim_truth (is_active c.args.tree.now c.args.world.now) claim) in
    sym (first_none t c.args.claims.now c.loop-place.place c.loop-place.place (let past = c.loop-place-test.false in omega (arith, past)))
    ∙ c.loop-place.invariant
