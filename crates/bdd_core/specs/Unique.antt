-- What the calls of the unique table promise the arena. No public clause speaks of this.
use Rattle.std.specs.Prelude.{◌≡◌, ◌≢◌, ℕ, ◌^◌, ◌<◌, ◌≤◌, ◌⊎◌, List, [], ◌∷◌, ◌++◌, length, slice_index_or}
use Rattle.bdd_core.specs.declared.node.Node.{Node}
use Rattle.bdd_core.specs.Diagram.{no_node}

-- the node of a constant, whose place is its own child
abbrev pub constant_at : ℕ → ℕ → Node
constant_at levels place = record { level = levels; low = place; high = place }

-- no node is this one, but for the constants
abbrev pub IsNew : List Node → Node → Type 0
IsNew nodes node = (k : ℕ) → 2 ≤ k → k < length nodes → slice_index_or nodes k no_node ≢ node

-- new is old with a new node at the end
pub record IsPushed (old new : List Node) (node : Node) : Type 0 where
  pub is : new ≡ old ++ node ∷ []
  pub is_new : IsNew old node
  pub room : length old < 2 ^ 32

-- new is old, with a new node at the end or as it was
abbrev pub Adds : List Node → List Node → Node → Type 0
Adds old new node = (new ≡ old) ⊎ IsPushed old new node
