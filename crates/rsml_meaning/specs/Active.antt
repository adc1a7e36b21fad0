-- Which states are active, and how a move enters its target.
use Rattle.std.specs.Prelude.{ℕ, Bool, true, List, [], map, length, Option, Some, None, if◌then◌else◌, zip, slice_index_or, unwrap_or}
use Rattle.std.specs.List.{list_all}
use Rattle.rsml_syntax.specs.declared.syntax.Spec.{Spec}
use Rattle.rsml_syntax.specs.declared.world.World.{World}
use Rattle.rsml_syntax.specs.text.Names.{Name, place_of}
use Rattle.rsml_meaning.specs.Words.{at, Path, child_path, is_prefix, is_proper_prefix}
use Rattle.rsml_meaning.specs.Instances.{Component, components}

-- the path of the chosen child
abbrev pub chosen : Component × ℕ → Path
chosen c = child_path c.0.path (at (slice_index_or c.0.children c.1 []) 0)

-- a component that is a proper prefix of the path has the path's next step as its child
abbrev pub leads_on : Path → Component × ℕ → Bool
leads_on path c = if is_proper_prefix c.0.path path then is_prefix (chosen c) path else true

-- each component that is a proper prefix of the path has the path's next step as its child
abbrev pub active : Spec → World → Path → Bool
active s w path = list_all (leads_on path) (zip (components s) w.choices)

-- the place of a child among the children, counted from 0
abbrev pub child_place : Component → Name → ℕ
child_place c name = unwrap_or (place_of name c.children) 0

-- the child that entering the target gives a component: the target's next step where the component is a proper prefix of it, else the default child
abbrev pub entered : Path → Component → Name
entered target c = if is_proper_prefix c.path target then (slice_index_or target (length c.path) (at c.default 0)).name else c.default

-- the place of the child that a move gives a component: the moving component and those below it get one
abbrev pub given : Path → Path → Component → Option ℕ
given moving target c = if is_prefix moving c.path then Some (child_place c (entered target c)) else None

-- the place of a component's child after a move, that of before where the move gives none
abbrev pub given_or_kept : Path → Path → Component × ℕ → ℕ
given_or_kept moving target c = unwrap_or (given moving target c.0) c.1

-- the children after one move, of the component at the first path to the target at the second
abbrev pub enter : Spec → Path → Path → List ℕ → List ℕ
enter s moving target choices = map (given_or_kept moving target) (zip (components s) choices)
