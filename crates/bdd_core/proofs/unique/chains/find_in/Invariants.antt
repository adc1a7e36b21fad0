use Rattle.std.proofs.Common.{length}
use Rattle.bdd_core.proofs.ChainLemmas.{IsAhead}
use Rattle.bdd_core.proofs.unique.chains.find_in.Given as goal

abbrev pub invariant-loop-at : goal.invariant-loop-at
invariant-loop-at l = IsAhead l.entries (length l.heads) l.node l.at

abbrev pub decreases-loop-at : goal.decreases-loop-at
decreases-loop-at l = l.at
