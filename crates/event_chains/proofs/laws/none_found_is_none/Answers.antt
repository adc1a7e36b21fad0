use Rattle.event_chains.proofs.FoundLemmas.{none_found_is_none as is_none}
use Rattle.event_chains.proofs.laws.none_found_is_none.Goals as goal

pub returns : goal.returns
returns c = is_none
