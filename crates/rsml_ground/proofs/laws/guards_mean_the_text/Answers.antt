use Rattle.rsml_ground.proofs.PhraseLemmas.{guards_mean_the_text}
use Rattle.rsml_ground.proofs.laws.guards_mean_the_text.Goals as goal

pub returns : goal.returns
returns c = guards_mean_the_text
