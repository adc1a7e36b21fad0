use Rattle.rsml_parser.proofs.OneAnswer.{has_one_answer}
use Rattle.rsml_parser.proofs.laws.tokens_have_one_answer.Goals as goal

pub returns : goal.returns
returns c = has_one_answer
