use Rattle.rsml_limits.proofs.NameLemmas.{named_stay}
use Rattle.rsml_limits.proofs.keys.ask_blocks.AskBlocks.sum_list.Goals as goal

pub invariant_of-self : goal.invariant_of-self
invariant_of-self c = named_stay c.self.inside.globals.now c.self.inside.lists c.put.new.self c.self.inside.known.entries c.put.ensures.grows c.self.invariant
