use Rattle.rsml_meaning.proofs.FirstFault.{first_fault_is_of_line}
use Rattle.rsml_meaning.proofs.event_files.a_first_fault_is_of_a_line.Goals as goal

pub returns : goal.returns
returns c = first_fault_is_of_line
