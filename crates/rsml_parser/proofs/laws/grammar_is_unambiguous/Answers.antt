use Rattle.rsml_parser.proofs.SpecificationLemmas.{tokens_tell}
use Rattle.rsml_parser.proofs.laws.grammar_is_unambiguous.Goals as goal

pub returns : goal.returns
returns c = tokens_tell
