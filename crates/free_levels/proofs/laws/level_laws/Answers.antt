use Rattle.free_levels.proofs.PrefixLemmas.{fixes-level}
use Rattle.free_levels.proofs.SupportLemmas.{unreached}
use Rattle.free_levels.proofs.laws.level_laws.Goals as goal

pub returns-clause-unreached : goal.returns-clause-unreached
returns-clause-unreached c = unreached

pub returns-clause-fix : goal.returns-clause-fix
returns-clause-fix c = fixes-level
