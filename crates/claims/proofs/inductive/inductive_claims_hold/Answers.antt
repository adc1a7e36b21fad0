use Rattle.claims.proofs.Runs.{inductive_claims_hold}
use Rattle.claims.proofs.inductive.inductive_claims_hold.Goals as goal

pub returns : goal.returns
returns c = inductive_claims_hold
