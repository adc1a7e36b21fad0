use Rattle.rsml_meaning.proofs.Steps.{events_have_lengths, steps_are_one, steps_are_short}
use Rattle.rsml_meaning.proofs.whole_steps.steps_have_one_result.Goals as goal

pub returns-clause-one : goal.returns-clause-one
returns-clause-one c = steps_are_one

pub returns-clause-lengths : goal.returns-clause-lengths
returns-clause-lengths c = events_have_lengths

pub returns-clause-short : goal.returns-clause-short
returns-clause-short c = steps_are_short
