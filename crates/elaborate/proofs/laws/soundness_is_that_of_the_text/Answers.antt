use Rattle.elaborate.proofs.Conditions.{soundness_is}
use Rattle.elaborate.proofs.laws.soundness_is_that_of_the_text.Goals as goal

pub returns : goal.returns
returns c = soundness_is
