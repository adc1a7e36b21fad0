-- States as children of those around them.
use Rattle.std.specs.Prelude.{◌≡◌, ℕ, ◌-◌, List, [], Option, Some, None, length, slice_get}
use Rattle.std.specs.Option.{option_and_then}
use Rattle.indexmap.specs.IndexMap.{IndexMap, get}
use Rattle.rsml_meaning.specs.Words.{Path, Instance, at, child_path}
use Rattle.rsml_meaning.specs.Instances.{State}
use Rattle.state_tree.specs.nodes.Numbers.{IsPlace, paths, path_around}
use Rattle.state_arrays.specs.Places.{path_place, path_at}
use Rattle.state_arrays.specs.declared.child.Child.{Child}
use Rattle.state_arrays.specs.contracts.child.ChildPartialEq.TheImpl as child_eq

-- the path of a node, where there is one, else that around all
abbrev pub path_of : List State → Option ℕ → Option Path
path_of xs None = Some []
path_of xs (Some node) = path_at xs node

-- the place among the first ones of the child of a node
abbrev pub child_place : List State → List State → Option ℕ → Instance → Option ℕ
child_place xs first parent step = option_and_then (λ p. path_place first (child_path p step)) (path_of xs parent)

-- each child of a node is found at its place
abbrev pub AreNumbers : {S : Type 0} → List State → List State → IndexMap Child ℕ S → Type 0
AreNumbers xs first numbers =
    (c : Child) → get (child_eq.ghosts).eq numbers c ≡ child_place xs first c.parent (at c.name.now c.index)

-- the last step of a path
abbrev pub last_of : Path → Option Instance
last_of p = slice_get p (length p - 1)

-- what was found is the node of this number as a child of the one around it, where it has a path with a step
abbrev pub IsChildAt : List State → ℕ → Option Child → Type 0
IsChildAt xs node None = option_and_then last_of (path_at xs node) ≡ None
IsChildAt xs node (Some c) =
    (option_and_then last_of (path_at xs node) ≡ Some (at c.name.now c.index))
    × IsPlace (paths xs) (path_around xs node) c.parent
