use Rattle.rsml_meaning.proofs.FunctionValues.{function_values_are_of_cases}
use Rattle.rsml_meaning.proofs.Stable.{functions_give_their_cases}
use Rattle.rsml_meaning.proofs.truth.functions_give_their_cases.Goals as goal

pub returns-clause-all : goal.returns-clause-all
returns-clause-all c = functions_give_their_cases

pub returns-clause-value : goal.returns-clause-value
returns-clause-value c = function_values_are_of_cases
