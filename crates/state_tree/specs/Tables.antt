-- What the tree stores about states and components, and what is right of it.
use Rattle.std.specs.Prelude.{◌≡◌, ℕ, zero, suc, ◌<◌, ◌≤◌, ◌&&◌, ⊤, List, [], ◌∷◌, length, Option, Some, None, slice_get, slice_index_or, nat_le, nat_lt}
use Rattle.std.specs.List.{AllZip}
use Rattle.rsml_syntax.specs.declared.syntax.Spec.{Spec}
use Rattle.rsml_syntax.specs.text.Names.{Name}
use Rattle.rsml_syntax.specs.limits.Checked.{IsChecked}
use Rattle.rsml_meaning.specs.Words.{Path, is_prefix, at, child_path}
use Rattle.rsml_meaning.specs.Instances.{State, Component, states, components}
use Rattle.rsml_meaning.specs.Active.{chosen, child_place}
use Rattle.state_tree.specs.nodes.Numbers.{paths, component_at}

-- The number past the last state that is in a state: those that its path begins stand from it to there.
pub record IsEnd (ps : List Path) (first end : ℕ) : Type 0 where
  pub within : end ≤ length ps
  pub span : (p : Path) → slice_get ps first ≡ Some p → (number : ℕ) (q : Path) → slice_get ps number ≡ Some q
      → is_prefix p q ≡ (nat_le first number && nat_lt number end)

-- each state's end
pub record AreEnds (ps : List Path) (ends : List ℕ) : Type 0 where
  pub many : length ends ≡ length ps
  pub each : (node end : ℕ) → slice_get ends node ≡ Some end → IsEnd ps node end

-- the number is that of the plain child of this name of a state
abbrev pub IsChildNamed : List Path → ℕ → Name → ℕ → Type 0
IsChildNamed ps node name number =
    (p : Path) → slice_get ps node ≡ Some p → slice_get ps number ≡ Some (child_path p (at name 0))

-- the state has a plain child of this name
abbrev pub HasChildNamed : List Path → ℕ → Name → Type 0
HasChildNamed ps node name =
    (p : Path) × (number : ℕ) × (slice_get ps node ≡ Some p) × (slice_get ps number ≡ Some (child_path p (at name 0)))

-- so many numbers from a first one on, each the end that stands for the one before
abbrev pub in_row : List ℕ → ℕ → ℕ → List ℕ
in_row ends first zero = []
in_row ends first (suc count) = first ∷ in_row ends (slice_index_or ends first 0) count

-- A component: its number as a state, the place of its default child, and the numbers of its children.
pub record Family : Type 0 where
  pub node : ℕ
  pub default : ℕ
  pub children : List ℕ

-- the numbers are those of a component
pub record IsFamily (s : Spec) (c : Component) (f : Family) : Type 0 where
  pub here : component_at (states s) f.node ≡ Some c
  pub path : slice_get (paths (states s)) f.node ≡ Some c.path
  pub default : f.default ≡ child_place c c.default
  pub many : length f.children ≡ length c.children
  pub few : length c.children ≤ 64
  pub children : (place node : ℕ) → slice_get f.children place ≡ Some node
      → slice_get (paths (states s)) node ≡ Some (chosen (c, place))

-- the family is that of the component of this number
abbrev pub HasFamily : Spec → ℕ → Family → Type 0
HasFamily s component f = (c : Component) × (slice_get (components s) component ≡ Some c) × IsFamily s c f

-- the family of the state of this number, where that is a component
abbrev pub IsFamilyOf : Spec → ℕ → Option Component → Option Family → Type 0
IsFamilyOf s node None None = ⊤
IsFamilyOf s node (Some c) (Some f) = IsFamily s c f × (f.node ≡ node)
IsFamilyOf s node _ _ = ⊥

-- the later of two has the higher number as a state
abbrev pub AreRising : List Family → Type 0
AreRising fs = (j k : ℕ) (f h : Family) → j < k → slice_get fs j ≡ Some f → slice_get fs k ≡ Some h → f.node < h.node

-- each component's family
pub record AreFamilies (s : Spec) (fs : List Family) : Type 0 where
  pub each : AllZip (IsFamily s) (components s) fs
  pub rising : AreRising fs

-- all that is stored
pub record AreTables (s : Spec) (xs : List State) (es : List ℕ) (fs : List Family) : Type 0 where
  pub checked : IsChecked s
  pub nodes : xs ≡ states s
  pub ends : AreEnds (paths (states s)) es
  pub families : AreFamilies s fs
