use Rattle.elaborate.proofs.Conditions.{conditions_are}
use Rattle.elaborate.proofs.laws.conditions_are_those_of_the_text.Goals as goal

pub returns : goal.returns
returns c = conditions_are
