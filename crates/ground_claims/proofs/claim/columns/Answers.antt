use Rattle.std.proofs.Common.{sym, ◌∙◌}
use Rattle.ground_claims.proofs.Columns.{first_width, no_width}
use Rattle.ground_claims.proofs.claim.columns.Goals as goal

pub returns-in-Some : goal.returns-in-Some
returns-in-Some c = λ active. c.len.ensures ∙ sym (first_width active c.args.rows.now _ (sym c.in-Some.ensures.value))

pub returns-in-None : goal.returns-in-None
returns-in-None c = λ active. sym (no_width active c.args.rows.now (sym c.in-None.ensures.value))
