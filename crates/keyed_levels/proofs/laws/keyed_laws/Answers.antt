use Rattle.keyed_levels.proofs.Lawful.{are_keys, spelled_lawfully, spell_worlds, tells_on, false_in_all}
use Rattle.keyed_levels.proofs.laws.keyed_laws.Goals as goal

pub returns-clause-worlds : goal.returns-clause-worlds
returns-clause-worlds c = spell_worlds c.world_laws.ensures.all

pub returns-clause-each : goal.returns-clause-each
returns-clause-each c = spelled_lawfully c.world_laws.ensures.each c.world_laws.ensures.free

pub returns-clause-keys : goal.returns-clause-keys
returns-clause-keys c = are_keys c.world_laws.ensures.nothing

pub returns-clause-on : goal.returns-clause-on
returns-clause-on c = tells_on

pub returns-clause-none : goal.returns-clause-none
returns-clause-none c = false_in_all c.world_laws.ensures.all c.world_laws.ensures.each c.world_laws.ensures.free
