use Rattle.std.proofs.Common.{◌≡◌, ◌<◌, slice_get, Some, ℕ}
use Rattle.rsml_meaning.specs.Instances.{Component, states, components}
use Rattle.rsml_meaning.specs.Active.{chosen}
use Rattle.state_tree.specs.nodes.Numbers.{paths}
use Rattle.phrase_diagrams.proofs.chosen.place_of.Given as goal

-- no earlier child is the state
abbrev pub invariant-loop-place : goal.invariant-loop-place
invariant-loop-place l = (c : Component) → slice_get (components l.tree) l.component ≡ Some c
    → (n : ℕ) → n < l.place → slice_get (paths (states l.tree)) l.node ≡ Some (chosen (c, n)) → ⊥
