-- The numbers of states and of components: their places in the lists of the definitions.
use Rattle.std.specs.Prelude.{◌≡◌, ℕ, ◌+◌, ◌≤◌, ⊤, List, [], ◌∷◌, map, length, filter_map, flat_map, Option, Some, None, slice_get, unwrap_or}
use Rattle.std.specs.Option.{option_and_then}
use Rattle.rsml_syntax.specs.declared.syntax.Body.{Body}
use Rattle.rsml_syntax.specs.declared.syntax.StateDecl.{StateDecl}
use Rattle.rsml_syntax.specs.rules.Globals.{Globals}
use Rattle.rsml_meaning.specs.Words.{Path, Each, at, child_path}
use Rattle.rsml_meaning.specs.Instances.{State, Component, component_of, new_state, subtree}

-- the number is the place of the item, where there is one
abbrev pub IsPlace : {A : Type 0} → List A → Option A → Option ℕ → Type 0
IsPlace xs None None = ⊤
IsPlace xs (Some x) (Some place) = slice_get xs place ≡ Some x
IsPlace xs _ _ = ⊥

-- the path of the state around: without the last step, none where that is all
abbrev pub path_above : Path → Option Path
path_above [] = None
path_above (x ∷ []) = None
path_above (x ∷ y ∷ path) = Some (x ∷ unwrap_or (path_above (y ∷ path)) [])

-- the paths of states
abbrev pub paths : List State → List Path
paths xs = map (λ x. x.path) xs

-- the components among states
abbrev pub components_of : List State → List Component
components_of xs = filter_map (λ x. x.component) xs

-- the path of the state around the one of this number
abbrev pub path_around : List State → ℕ → Option Path
path_around xs node = option_and_then (λ x. path_above x.path) (slice_get xs node)

-- the component that the state of this number is
abbrev pub component_at : List State → ℕ → Option Component
component_at xs node = option_and_then (λ x. x.component) (slice_get xs node)

-- the number is this one, where there is a component
abbrev pub IsNext : ℕ → Option Component → Option ℕ → Type 0
IsNext before None None = ⊤
IsNext before (Some c) (Some number) = number ≡ before
IsNext before _ _ = ⊥

-- A state instance with its body, and the numbers of its parent and of the component that it is.
pub record Node : Type 0 where
  pub path : Path
  pub body : Body
  pub parent : Option ℕ
  pub component : Option ℕ

-- the state that a node is
abbrev pub state_of : Node → State
state_of n = new_state n.body n.path

-- The numbers of a node are places among these states.
pub record Stands (xs : List State) (n : Node) : Type 0 where
  pub parent : IsPlace (paths xs) (path_above n.path) n.parent
  pub component : IsPlace (components_of xs) (component_of n.body n.path) n.component

-- nodes with right numbers, as many as L1 lets there be
pub record AreNodes (ns : List Node) : Type 0 where
  pub stand : Each (Stands (map state_of ns)) ns
  pub room : length ns ≤ 4096

-- nodes, and how many components are among them
pub record AreNumbered (ns : List Node) (components : ℕ) : Type 0 where
  pub nodes : AreNodes ns
  pub count : components ≡ length (components_of (map state_of ns))

-- the state of this number has this path, which has a step
pub record IsAt (xs : List State) (node : ℕ) (path : Path) : Type 0 where
  pub here : slice_get (paths xs) node ≡ Some path
  pub some : 1 ≤ length path

-- no index is past 64, as S5 has it
abbrev pub HasIndices : Path → Type 0
HasIndices path = Each (λ step. step.index ≤ 64) path

-- These states have room behind as many, and their indices fit.
pub record Fit (count : ℕ) (xs : List State) : Type 0 where
  pub room : count + length xs ≤ 4096
  pub indices : Each (λ x. HasIndices x.path) xs

-- the states that a child makes at these indices
abbrev pub instance_states : Globals → Path → StateDecl → List ℕ → List State
instance_states g path child is = flat_map (λ i. subtree g child.body (child_path path (at child.name i))) is
