use Rattle.std.proofs.Common.{sym, subst, All, IfOk}
use Rattle.std.specs.List.{AllZip}
use Rattle.ground_claims.specs.StandsFor.{ClaimIs}
use Rattle.ground_claims.specs.Scoped.{ClaimIsScoped}
use Rattle.ground_claims.proofs.Scopes.{claims_are_scoped}
use Rattle.ground_claims.proofs.grounding.ground_claims.Goals as goal

pub all_ground-requires : goal.all_ground-requires
all_ground-requires c =
    subst (λ s. All (ClaimIsScoped s) c.args.claims.now) (sym c.in_ok-lookup.ensures) (claims_are_scoped c.args.checked.now c.args.claims.now c.requires.joined)

pub returns : goal.returns
returns c =
    subst (λ s. IfOk c.all_ground.result (λ ground. AllZip (ClaimIs s) c.args.claims.now ground.items)) c.in_ok-lookup.ensures c.all_ground.ensures
