use Rattle.rsml_syntax.proofs.ScanLemmas.{lexes_once}
use Rattle.rsml_lexer.proofs.laws.at_most_one_token_list.Goals as goal

pub returns : goal.returns
returns c = lexes_once
