use Rattle.rsml_meaning.proofs.Entering.{moves_apart_commute}
use Rattle.rsml_meaning.proofs.worlds.moves_apart_commute.Goals as goal

pub returns : goal.returns
returns c = moves_apart_commute
