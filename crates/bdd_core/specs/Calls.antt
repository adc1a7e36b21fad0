-- What the calls of an arena promise.
use Rattle.std.specs.Prelude.{◌≡◌, ◌↔◌, ℕ, ◌≤◌, Bool, true, false, ◌&&◌, ◌==◌, List, if◌then◌else◌, length, slice_index_or}
use Rattle.std.specs.List.{list_any}
use Rattle.bdd_core.specs.declared.branch.Branch.{Branch}
use Rattle.bdd_core.specs.Diagram.{Diagram, IsRef, node_at, meaning, IsReducedNode}
use Rattle.bdd_core.specs.Reach.{Reaches}

-- every earlier place is still one, of the same node and with the same function
pub record Keeps (old new : Diagram) : Type 0 where
  pub same_levels : new.levels ≡ old.levels
  pub longer : length old.nodes ≤ length new.nodes
  pub nodes_stay : (f : ℕ) → IsRef old f → node_at new f ≡ node_at old f
  pub meanings_stay : (f : ℕ) (values : ℕ → Bool) → IsRef old f → meaning new f values ≡ meaning old f values

-- r is a place, and has this function
pub record Represents (d : Diagram) (function : (ℕ → Bool) → Bool) (r : ℕ) : Type 0 where
  pub is_ref : IsRef d r
  pub means : (values : ℕ → Bool) → meaning d r values ≡ function values

-- the values of the levels, from a list with one value a level
abbrev pub values_of : List Bool → ℕ → Bool
values_of values level = slice_index_or values level false

-- the values, but for one level
abbrev pub with_value : (ℕ → Bool) → ℕ → Bool → ℕ → Bool
with_value values level value other = if other == level then value else values other

-- the function of f has one and the same value everywhere
abbrev pub IsConstant : Diagram → ℕ → Type 0
IsConstant d f = (value : Bool) × ((values : ℕ → Bool) → meaning d f values ≡ value)

-- the node at f, and what it says of f's function
pub record IsBranch (d : Diagram) (f : ℕ) (branch : Branch) : Type 0 where
  pub node : node_at d f ≡ record { level = branch.level; low = branch.low; high = branch.high }
  pub reduced : IsReducedNode d f (node_at d f)
  pub means : (values : ℕ → Bool) → meaning d f values
      ≡ meaning d (if values branch.level then branch.high else branch.low) values

-- the place k of new has the conjunction of two functions: of a place that f reached in old, and of one that g did
pub record IsConjunction (old new : Diagram) (f g k : ℕ) : Type 0 where
  pub f_part : ℕ
  pub g_part : ℕ
  pub f_reached : Reaches old f f_part
  pub g_reached : Reaches old g g_part
  pub means : (values : ℕ → Bool) → meaning new k values ≡ (meaning old f_part values && meaning old g_part values)

-- each place that new has and old has not is such a conjunction
abbrev pub AddsConjunctions : Diagram → Diagram → ℕ → ℕ → Type 0
AddsConjunctions old new f g = (k : ℕ) → length old.nodes ≤ k → IsRef new k → IsConjunction old new f g k

-- whether a level is in a list
abbrev pub is_in : List ℕ → ℕ → Bool
is_in levels level = list_any (λ other. other == level) levels

-- the values differ in these levels alone
abbrev pub AgreeOff : List ℕ → (ℕ → Bool) → (ℕ → Bool) → Type 0
AgreeOff levels one other = (level : ℕ) → is_in levels level ≡ false → one level ≡ other level

-- some values that differ from these in those levels alone make the function true
pub record TrueOff (function : (ℕ → Bool) → Bool) (levels : List ℕ) (values : ℕ → Bool) : Type 0 where
  pub other : ℕ → Bool
  pub agree : AgreeOff levels other values
  pub holds : function other ≡ true

-- r is true exactly where f is with some values of these levels
pub record IsForgotten (old new : Diagram) (f : ℕ) (levels : List ℕ) (r : ℕ) : Type 0 where
  pub is_ref : IsRef new r
  pub means : (values : ℕ → Bool) → (meaning new r values ≡ true) ↔ TrueOff (meaning old f) levels values

-- the function of f does not depend on the level
abbrev pub Ignores : Diagram → ℕ → ℕ → Type 0
Ignores d f level = (values : ℕ → Bool) (value : Bool) → meaning d f (with_value values level value) ≡ meaning d f values
