use Rattle.std.proofs.Common.{◌<◌, All, length}
use Rattle.settled_worlds.specs.Conflicts.{IsThere}
use Rattle.settled_worlds.proofs.paths.keys_back.Given as goal

abbrev pub invariant-loop-at : goal.invariant-loop-at
invariant-loop-at l = record {
  keys : All (IsThere l.levels) l.path.items;
  within : l.at < length l.steps;
}

abbrev pub decreases-loop-at : goal.decreases-loop-at
decreases-loop-at l = l.at
