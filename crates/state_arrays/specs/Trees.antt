-- States that are a tree: their paths differ, and around each is another or nothing.
use Rattle.std.specs.Prelude.{◌≡◌, ℕ, ⊤, List, [], ◌∷◌, Some, ◌⊎◌}
use Rattle.rsml_meaning.specs.Words.{Path, Instance, Each, child_path}
use Rattle.rsml_meaning.specs.Instances.{State}
use Rattle.state_arrays.specs.Places.{path_at}

-- no two states have one path
abbrev pub PathsDiffer : List State → Type 0
PathsDiffer [] = ⊤
PathsDiffer (x ∷ xs) = Each (λ y. x.path ≡ y.path → ⊥) xs × PathsDiffer xs

-- a state has this path
abbrev pub HasPath : List State → Path → Type 0
HasPath xs p = (node : ℕ) × (path_at xs node ≡ Some p)

-- the path goes one step further than that of one of these states, or is that step alone
pub record IsStep (xs : List State) (p : Path) : Type 0 where
  pub above : Path
  pub step : Instance
  pub is : p ≡ child_path above step
  pub around : (above ≡ []) ⊎ HasPath xs above

pub record IsTree (xs : List State) : Type 0 where
  pub differ : PathsDiffer xs
  pub steps : Each (λ x. IsStep xs x.path) xs
