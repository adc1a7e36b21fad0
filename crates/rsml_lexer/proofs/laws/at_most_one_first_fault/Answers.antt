use Rattle.rsml_syntax.proofs.ScanLemmas.{fault_once}
use Rattle.rsml_lexer.proofs.laws.at_most_one_first_fault.Goals as goal

pub returns : goal.returns
returns c = fault_once
