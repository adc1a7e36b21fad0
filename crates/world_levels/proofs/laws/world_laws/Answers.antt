use Rattle.spelled_numbers.proofs.SpellingLemmas.{free_stays}
use Rattle.world_levels.specs.Spelling.{part_number}
use Rattle.world_levels.proofs.Spelled.{all_spell}
use Rattle.world_levels.proofs.Worlds.{each_spelled}
use Rattle.world_levels.proofs.Changes.{free_spells_nothing, cell_spells_itself}
use Rattle.world_levels.proofs.laws.world_laws.Goals as goal

pub returns-clause-all : goal.returns-clause-all
returns-clause-all c = all_spell

pub returns-clause-each : goal.returns-clause-each
returns-clause-each c = each_spelled

pub returns-clause-free : goal.returns-clause-free
returns-clause-free c = λ s slots w free level is. free_stays slots (part_number s w) free level is

pub returns-clause-nothing : goal.returns-clause-nothing
returns-clause-nothing c = free_spells_nothing

pub returns-clause-cell : goal.returns-clause-cell
returns-clause-cell c = cell_spells_itself
