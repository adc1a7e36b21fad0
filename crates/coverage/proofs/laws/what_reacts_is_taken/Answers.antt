use Rattle.coverage.proofs.TakenLemmas.{what_reacts_is_taken}
use Rattle.coverage.proofs.laws.what_reacts_is_taken.Goals as goal

pub returns : goal.returns
returns c = what_reacts_is_taken
