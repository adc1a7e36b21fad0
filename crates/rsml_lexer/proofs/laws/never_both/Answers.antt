use Rattle.rsml_syntax.proofs.ScanLemmas.{lexes_or_faults}
use Rattle.rsml_lexer.proofs.laws.never_both.Goals as goal

pub returns : goal.returns
returns c = lexes_or_faults
