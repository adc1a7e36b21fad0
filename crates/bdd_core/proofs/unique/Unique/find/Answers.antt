use Rattle.bdd_core.proofs.ChainLemmas.{new-none}
use Rattle.bdd_core.proofs.unique.Unique.find.Goals as goal

pub returns-clause-none : goal.returns-clause-none
returns-clause-none c =
    new-none c.find_in.result c.self.inside.entries.items c.as_slice.result.now c.args.self.now c.args.node c.as_slice.ensures.value c.self.view_is c.find_in.ensures.none
