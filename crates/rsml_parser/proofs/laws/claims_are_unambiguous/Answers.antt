use Rattle.rsml_parser.proofs.JoinLemmas.{tokens_tell}
use Rattle.rsml_parser.proofs.laws.claims_are_unambiguous.Goals as goal

pub returns : goal.returns
returns c = tokens_tell
