-- Paths by the numbers of states and of components, and choices that fit the components.
use Rattle.std.specs.Prelude.{◌≡◌, ℕ, ◌<◌, true, List, [], map, length, Some, if◌then◌else◌, slice_get, unwrap_or, zip, IsTrue, Bool}
use Rattle.std.specs.List.{list_all}
use Rattle.std.specs.Cmp.Lexicographic.{pointwise}
use Rattle.rsml_syntax.specs.declared.syntax.Spec.{Spec}
use Rattle.rsml_syntax.specs.declared.world.Step.{Step}
use Rattle.rsml_syntax.specs.declared.world.World.{World}
use Rattle.rsml_meaning.specs.Words.{Path, child_path, same_path, is_prefix}
use Rattle.rsml_meaning.specs.Instances.{Component, states, components}
use Rattle.rsml_meaning.specs.Active.{chosen, active}
use Rattle.rsml_meaning.specs.Worlds.{is_choice}
use Rattle.state_tree.specs.nodes.Numbers.{paths}

-- the path of the state of this number
abbrev pub path_of : Spec → ℕ → Path
path_of s node = unwrap_or (slice_get (paths (states s)) node) []

-- the path of the component of this number
abbrev pub component_path : Spec → ℕ → Path
component_path s component = unwrap_or (slice_get (map (λ c. c.path) (components s)) component) []

-- the component of this number has a child at this place
abbrev pub HasChild : Spec → ℕ → ℕ → Type 0
HasChild s component place =
    (c : Component) × (slice_get (components s) component ≡ Some c) × (place < length c.children)

-- one child for each component
abbrev pub AreChoices : Spec → List ℕ → Type 0
AreChoices s choices = IsTrue (pointwise is_choice (components s) choices)

-- whether the state of this number is active where these children are chosen, whatever the cells hold
abbrev pub IsActivity : Spec → List ℕ → ℕ → Bool → Type 0
IsActivity s choices node answer = (w : World) → w.choices ≡ choices → answer ≡ active s w (path_of s node)

-- a component at this path has the path's next step as its child
abbrev pub leads_here : Path → Step → Component × ℕ → Bool
leads_here path step c = if same_path c.0.path path then is_prefix (chosen c) (child_path path step) else true

-- each component at a path has the path's next step as its child
abbrev pub leads_to : Spec → List ℕ → Path → Step → Bool
leads_to s choices path step = list_all (leads_here path step) (zip (components s) choices)
