use Rattle.std.proofs.Common.{subst}
use Rattle.bdd_core.specs.Diagram.{IsReduced}
use Rattle.bdd_core.proofs.CanonicalLemmas.{canonical}
use Rattle.bdd_core.proofs.arena.Arena.laws.Goals as goal

pub returns-clause-canonical : goal.returns-clause-canonical
returns-clause-canonical c = canonical c.args.self.now (subst IsReduced c.self.view_is c.self.invariant.is_reduced)
