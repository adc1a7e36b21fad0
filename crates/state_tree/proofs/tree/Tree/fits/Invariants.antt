use Rattle.std.proofs.Common.{◌≡◌, drop, length}
use Rattle.std.specs.Cmp.Lexicographic.{pointwise}
use Rattle.rsml_meaning.specs.Instances.{components}
use Rattle.rsml_meaning.specs.Worlds.{is_choice}
use Rattle.state_tree.proofs.tree.Tree.fits.Given as goal

abbrev pub invariant-loop-component : goal.invariant-loop-component
invariant-loop-component l =
    (length l.choices ≡ length (components l.self))
    × (pointwise is_choice (drop l.component (components l.self)) (drop l.component l.choices) ≡ pointwise is_choice (components l.self) l.choices)
