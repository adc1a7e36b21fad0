use Rattle.rsml_ground.proofs.PhraseLemmas.{functions_mean_the_text}
use Rattle.rsml_ground.proofs.laws.functions_mean_the_text.Goals as goal

pub returns : goal.returns
returns c = functions_mean_the_text
