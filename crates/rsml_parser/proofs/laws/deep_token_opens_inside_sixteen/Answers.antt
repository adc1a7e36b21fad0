use Rattle.rsml_parser.proofs.DeepLemmas.{opens_inside_sixteen}
use Rattle.rsml_parser.proofs.laws.deep_token_opens_inside_sixteen.Goals as goal

pub returns : goal.returns
returns c = opens_inside_sixteen
