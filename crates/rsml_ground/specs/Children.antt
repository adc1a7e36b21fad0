-- Children of components.
use Rattle.std.specs.Prelude.{◌≡◌, ◌↔◌, ℕ, ◌<◌, Bool, false, length, Option, Some, slice_get, slice_index_or}
use Rattle.std.specs.Option.{option_map_or}
use Rattle.rsml_syntax.specs.declared.syntax.Spec.{Spec}
use Rattle.rsml_syntax.specs.declared.world.World.{World}
use Rattle.rsml_meaning.specs.Words.{same_path}
use Rattle.rsml_meaning.specs.Instances.{Component, states, components}
use Rattle.rsml_meaning.specs.Active.{chosen}
use Rattle.state_tree.specs.nodes.Numbers.{paths}
use Rattle.state_tree.specs.Numbers.{path_of}

-- the place of the state of this number among the children of a component, if it is one of them
abbrev pub IsPlaceOf : Spec → Component → ℕ → Option ℕ → Type 0
IsPlaceOf s c node place =
    (n : ℕ) → n < length c.children → (slice_get (paths (states s)) node ≡ Some (chosen (c, n))) ↔ (place ≡ Some n)

-- whether the component of this number has the state of this number as its child
abbrev pub has_child : Spec → World → ℕ → ℕ → Bool
has_child s w component node =
    option_map_or (λ c. same_path (chosen (c, slice_index_or w.choices component 0)) (path_of s node)) (slice_get (components s) component) false
