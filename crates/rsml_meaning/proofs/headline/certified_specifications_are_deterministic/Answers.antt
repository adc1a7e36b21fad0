use Rattle.rsml_meaning.proofs.Deterministic.{certified_is_deterministic}
use Rattle.rsml_meaning.proofs.headline.certified_specifications_are_deterministic.Goals as goal

pub returns : goal.returns
returns c = certified_is_deterministic
