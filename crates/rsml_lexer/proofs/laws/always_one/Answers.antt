use Rattle.rsml_syntax.proofs.ScanLemmas.{lexes_or_fails}
use Rattle.rsml_lexer.proofs.laws.always_one.Goals as goal

pub returns : goal.returns
returns c = lexes_or_fails
