use Rattle.std.proofs.Common.{◌≡◌, ◌<◌, length}
use Rattle.rsml_syntax.specs.declared.world.World.{World}
use Rattle.rsml_meaning.specs.Active.{active}
use Rattle.rsml_meaning.specs.Instances.{states}
use Rattle.state_tree.specs.Numbers.{path_of}
use Rattle.state_tree.proofs.tree.Tree.active.Given as goal

abbrev pub invariant-loop-outer : goal.invariant-loop-outer
invariant-loop-outer l = record {
  there : l.inner < length (states l.self);
  same : (w : World) → w.choices ≡ l.choices → active l.self w (path_of l.self l.node) ≡ active l.self w (path_of l.self l.inner);
}

abbrev pub decreases-loop-outer : goal.decreases-loop-outer
decreases-loop-outer l = length (path_of l.self l.inner)
