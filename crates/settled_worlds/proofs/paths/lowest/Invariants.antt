use Rattle.std.proofs.Common.{All}
use Rattle.bdd_core.specs.Diagram.{IsRef}
use Rattle.settled_worlds.specs.Conflicts.{IsThere}
use Rattle.settled_worlds.proofs.paths.lowest.Given as goal

abbrev pub invariant-loop-node : goal.invariant-loop-node
invariant-loop-node l = record {
  is_ref : IsRef l.arena l.at;
  keys : All (IsThere l.levels) l.path.items;
}

abbrev pub decreases-loop-node : goal.decreases-loop-node
decreases-loop-node l = l.at
