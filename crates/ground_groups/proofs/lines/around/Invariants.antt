use Rattle.std.proofs.Common.{◌≡◌, ◌<◌, ◌≤◌, length}
use Rattle.rsml_meaning.specs.Instances.{states}
use Rattle.ground_groups.specs.Stored.{upper_of}
use Rattle.ground_groups.proofs.lines.around.Given as goal

abbrev pub invariant-loop-outer : goal.invariant-loop-outer
invariant-loop-outer l = record {
  there : l.inner < length (states l.tree);
  low : l.inner ≤ l.key.owner;
  same : upper_of l.tree l.key ≡ upper_of l.tree (record { owner = l.inner; event = l.key.event });
}

abbrev pub decreases-loop-outer : goal.decreases-loop-outer
decreases-loop-outer l = l.inner
