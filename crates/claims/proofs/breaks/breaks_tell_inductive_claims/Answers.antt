use Rattle.claims.proofs.NoBreak.{inductive_have_no_break, no_break_is_inductive}
use Rattle.claims.proofs.breaks.breaks_tell_inductive_claims.Goals as goal

pub returns-clause-none : goal.returns-clause-none
returns-clause-none c = inductive_have_no_break

pub returns-clause-inductive : goal.returns-clause-inductive
returns-clause-inductive c = no_break_is_inductive
