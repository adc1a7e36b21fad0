use Rattle.rsml_meaning.proofs.Lowest.{lowest_lines_enable_one, sources_have_lowest_lines}
use Rattle.rsml_meaning.proofs.lowest_lines.lowest_lines_enable_one.Goals as goal

pub returns-clause-one : goal.returns-clause-one
returns-clause-one c = lowest_lines_enable_one

pub returns-clause-lowest : goal.returns-clause-lowest
returns-clause-lowest c = sources_have_lowest_lines
