use Rattle.rsml_ground.proofs.PhraseLemmas.{phrases_mean_the_text}
use Rattle.rsml_ground.proofs.laws.phrases_mean_the_text.Goals as goal

pub returns : goal.returns
returns c = phrases_mean_the_text
