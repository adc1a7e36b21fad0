-- How far a walk over the nodes of a function has come. No public clause speaks of this.
use Rattle.std.specs.Prelude.{◌≡◌, ℕ, ◌⊎◌, Bool, true, false, List, ◌++◌, length, slice_index_or, Contains}
use Rattle.bdd_core.specs.declared.branch.Branch.{Branch}
use Rattle.bdd_core.specs.Diagram.{Diagram, IsRef}
use Rattle.bdd_core.specs.Calls.{IsBranch, IsConstant}

-- the node at f has its level marked, and its children are in the list
pub record IsMarked (d : Diagram) (seen : List ℕ) (used : List Bool) (f : ℕ) : Type 0 where
  pub branch : Branch
  pub node : IsBranch d f branch
  pub low : Contains seen branch.low
  pub high : Contains seen branch.high
  pub level : slice_index_or used branch.level false ≡ true

-- f is a constant, or marked
abbrev pub IsVisited : Diagram → List ℕ → List Bool → ℕ → Type 0
IsVisited d seen used f = IsConstant d f ⊎ IsMarked d seen used f

-- a visit of f: then it has been visited, places of nodes may have been put at the end of the list, and no mark is gone
pub record Visits (d : Diagram) (f : ℕ) (old new : List ℕ) (before after : List Bool) : Type 0 where
  pub visited : IsVisited d new after f
  pub added : List ℕ
  pub seen : new ≡ old ++ added
  pub refs : (k : ℕ) → Contains added k → IsRef d k
  pub many : length after ≡ length before
  pub marks : (level : ℕ) → slice_index_or before level false ≡ true → slice_index_or after level false ≡ true
