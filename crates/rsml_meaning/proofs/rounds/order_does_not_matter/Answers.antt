use Rattle.rsml_meaning.proofs.Turns.{order_does_not_matter}
use Rattle.rsml_meaning.proofs.rounds.order_does_not_matter.Goals as goal

pub returns : goal.returns
returns c = order_does_not_matter
