use Rattle.rsml_ground.proofs.PhraseLemmas.{truths_are_of_phrases}
use Rattle.rsml_ground.proofs.laws.truths_are_of_phrases.Goals as goal

pub returns : goal.returns
returns c = truths_are_of_phrases
