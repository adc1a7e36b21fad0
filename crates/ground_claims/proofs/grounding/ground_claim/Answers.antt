use Rattle.std.proofs.Common.{subst}
use Rattle.std.specs.List.{AllZip}
use Rattle.ground_claims.specs.StandsFor.{RowIs}
use Rattle.ground_claims.proofs.Telling.{claim_is}
use Rattle.ground_claims.proofs.grounding.ground_claim.Goals as goal

pub returns : goal.returns
returns c =
    claim_is c.args.lookup.now c.args.claim.now (record { rows = c.in_ok-rows.rows }) (subst (λ rows. AllZip (RowIs c.args.lookup.now) rows c.in_ok-rows.rows) c.as_slice.ensures c.in_ok-rows.ensures)
