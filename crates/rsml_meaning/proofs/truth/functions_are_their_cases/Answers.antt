use Rattle.rsml_meaning.proofs.Stable.{functions_are_their_cases}
use Rattle.rsml_meaning.proofs.truth.functions_are_their_cases.Goals as goal

pub returns : goal.returns
returns c = functions_are_their_cases
