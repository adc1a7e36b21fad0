use Rattle.rsml_ground.proofs.SumLemmas.{sums_mean_the_text}
use Rattle.rsml_ground.proofs.laws.sums_mean_the_text.Goals as goal

pub returns : goal.returns
returns c = sums_mean_the_text
