use Rattle.judging.proofs.TextLemmas.{syntax_told, depth_told}
use Rattle.judging.proofs.fault_lines.parse_fault.Goals as goal

pub returns-in-Syntax : goal.returns-in-Syntax
returns-in-Syntax c = syntax_told c.in-Syntax.token _ _ c.in-Syntax.is c.numbered.ensures

pub returns-in-TooDeep : goal.returns-in-TooDeep
returns-in-TooDeep c = depth_told c.in-TooDeep.token _ _ c.in-TooDeep.is c.numbered-in-TooDeep.ensures
