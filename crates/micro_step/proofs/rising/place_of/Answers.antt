use Rattle.micro_step.proofs.RisingLemmas.{searched_place}
use Rattle.micro_step.proofs.rising.place_of.Goals as goal

pub returns-clause-new : goal.returns-clause-new
returns-clause-new c = searched_place c.args.items.now c.args.number c.binary_search.result c.requires c.binary_search.ensures.position
