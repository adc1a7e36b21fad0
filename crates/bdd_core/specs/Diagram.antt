-- Reduced ordered binary decision diagrams: the nodes of an arena, and the Boolean functions that they stand for.
use Rattle.std.specs.Prelude.{◌≡◌, ◌≢◌, ℕ, zero, suc, ◌<◌, ◌≤◌, ◌↔◌, Bool, true, false, List, if◌then◌else◌, length, slice_index_or}
use Rattle.bdd_core.specs.declared.node.Node.{Node}

-- an arena: how many levels it has, and its nodes in the order of their places; the first two are the constants false
-- and true
pub record Diagram : Type 0 where
  pub levels : ℕ
  pub nodes : List Node

-- what stands past the last node
abbrev pub no_node : Node
no_node = record { level = 0; low = 0; high = 0 }

-- f is the place of a node
abbrev pub IsRef : Diagram → ℕ → Type 0
IsRef d f = f < length d.nodes

-- the node at a place
abbrev pub node_at : Diagram → ℕ → Node
node_at d f = slice_index_or d.nodes f no_node

-- the level of the node at a place; that of the constants is the number of levels
abbrev pub level_of : Diagram → ℕ → ℕ
level_of d f = (node_at d f).level

-- the child to go on with, where the levels have these values
abbrev pub child_of : Node → (ℕ → Bool) → ℕ
child_of node values = if values node.level then node.high else node.low

-- whether one comes to the constant true, going down from a place by so many steps
unfoldable pub walk : Diagram → (ℕ → Bool) → ℕ → ℕ → Bool
walk d values steps zero = false
walk d values steps (suc zero) = true
walk d values zero (suc (suc k)) = false
walk d values (suc steps) (suc (suc k)) = walk d values steps (child_of (node_at d (suc (suc k))) values)

-- the function of f, where the levels have these values: children stand before their node, so f steps are enough
unfoldable pub meaning : Diagram → ℕ → (ℕ → Bool) → Bool
meaning d f values = walk d values f f

-- f and g have the same function
abbrev pub HaveSameMeaning : Diagram → ℕ → ℕ → Type 0
HaveSameMeaning d f g = (values : ℕ → Bool) → meaning d f values ≡ meaning d g values

-- the node at f is ordered and reduced: its children stand before it, have greater levels, and differ
pub record IsReducedNode (d : Diagram) (f : ℕ) (node : Node) : Type 0 where
  pub level_fits : node.level < d.levels
  pub low_before : node.low < f
  pub high_before : node.high < f
  pub low_level : node.level < level_of d node.low
  pub high_level : node.level < level_of d node.high
  pub differ : node.low ≢ node.high

-- an arena is ordered and reduced: the two constants, and then nodes that are, none of which stands twice
pub record IsReduced (d : Diagram) : Type 0 where
  pub at_least : 2 ≤ length d.nodes
  pub false_level : level_of d 0 ≡ d.levels
  pub true_level : level_of d 1 ≡ d.levels
  pub reduced : (f : ℕ) → 2 ≤ f → IsRef d f → IsReducedNode d f (node_at d f)
  pub once : (f g : ℕ) → IsRef d f → IsRef d g → node_at d f ≡ node_at d g → f ≡ g

-- an arena is canonical: two places are equal exactly where their functions are
abbrev pub IsCanonical : Diagram → Type 0
IsCanonical d = (f g : ℕ) → IsRef d f → IsRef d g → (f ≡ g) ↔ HaveSameMeaning d f g
