use Rattle.event_chains.proofs.FoundLemmas.{externals_answer}
use Rattle.event_chains.proofs.laws.external_events_answer.Goals as goal

pub returns : goal.returns
returns c = externals_answer
