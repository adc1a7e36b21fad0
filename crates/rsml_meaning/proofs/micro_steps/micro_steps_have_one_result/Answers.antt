use Rattle.rsml_meaning.proofs.MicroSteps.{micro_steps_are_one}
use Rattle.rsml_meaning.proofs.WorldSteps.{micro_steps_exist, micro_steps_leave_worlds}
use Rattle.rsml_meaning.proofs.micro_steps.micro_steps_have_one_result.Goals as goal

pub returns-clause-exist : goal.returns-clause-exist
returns-clause-exist c = micro_steps_exist

pub returns-clause-worlds : goal.returns-clause-worlds
returns-clause-worlds c = micro_steps_leave_worlds

pub returns-clause-one : goal.returns-clause-one
returns-clause-one c = micro_steps_are_one
