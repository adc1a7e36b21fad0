use Rattle.rsml_meaning.proofs.Repeats.{length_excludes_endless}
use Rattle.rsml_meaning.proofs.Ways.{length_or_endless}
use Rattle.rsml_meaning.proofs.chains.an_event_has_a_length_or_a_loop.Goals as goal

pub returns-clause-not_both : goal.returns-clause-not_both
returns-clause-not_both c = length_excludes_endless

pub returns-clause-one : goal.returns-clause-one
returns-clause-one c = length_or_endless
