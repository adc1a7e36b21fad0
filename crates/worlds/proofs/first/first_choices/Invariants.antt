use Rattle.std.proofs.Common.{◌≡◌, length}
use Rattle.rsml_meaning.specs.Instances.{components}
use Rattle.worlds.proofs.FirstWorlds.{Begun}
use Rattle.worlds.proofs.first.first_choices.Given as goal

abbrev pub invariant-loop-component : goal.invariant-loop-component
invariant-loop-component l = record {
  long : length l.choices ≡ length (components l.tree);
  begun : Begun l.component (components l.tree) l.choices;
}
