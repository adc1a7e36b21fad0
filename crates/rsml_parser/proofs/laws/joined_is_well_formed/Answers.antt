use Rattle.rsml_parser.proofs.JoinLemmas.{joined_well_formed}
use Rattle.rsml_parser.proofs.laws.joined_is_well_formed.Goals as goal

pub returns : goal.returns
returns c = joined_well_formed
