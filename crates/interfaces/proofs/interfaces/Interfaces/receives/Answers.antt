use Rattle.interfaces.proofs.KeptLemmas.{receives_count}
use Rattle.interfaces.proofs.interfaces.Interfaces.receives.Goals as goal

pub returns : goal.returns
returns c = receives_count c.self.inside.spec.now _ _ _ c.self.view_is c.self.invariant.names_are c.count.ensures
