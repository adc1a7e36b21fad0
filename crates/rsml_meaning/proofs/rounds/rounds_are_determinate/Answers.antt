use Rattle.rsml_meaning.proofs.MicroSteps.{rounds_are_determinate}
use Rattle.rsml_meaning.proofs.rounds.rounds_are_determinate.Goals as goal

pub returns : goal.returns
returns c = rounds_are_determinate
