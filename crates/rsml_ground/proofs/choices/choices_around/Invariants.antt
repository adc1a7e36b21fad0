use Rattle.std.proofs.Common.{◌≡◌, ◌<◌, ◌&&◌, length}
use Rattle.rsml_syntax.specs.declared.world.World.{World}
use Rattle.rsml_meaning.specs.Instances.{states}
use Rattle.state_tree.specs.Numbers.{AreChoices}
use Rattle.rsml_ground.specs.Truths.{is_active}
use Rattle.rsml_ground.specs.Choices.{AreOfComponents, are_chosen}
use Rattle.rsml_ground.proofs.choices.choices_around.Given as goal

abbrev pub invariant-loop-outer : goal.invariant-loop-outer
invariant-loop-outer l = record {
  there : l.inner < length (states l.tree);
  components : AreOfComponents l.tree l.choices.items;
  active : (w : World) → AreChoices l.tree w.choices → (are_chosen w.choices l.choices.items && is_active l.tree w l.inner) ≡ is_active l.tree w l.node;
}

abbrev pub decreases-loop-outer : goal.decreases-loop-outer
decreases-loop-outer l = l.inner
