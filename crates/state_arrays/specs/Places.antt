-- Where an instance stands: a cell, a state, a macro or function, a receive, a send.
use Rattle.std.specs.Prelude.{ℕ, not, ◌&&◌, List, map, Option, slice_get}
use Rattle.std.specs.List.{position_from}
use Rattle.std.specs.Option.{option_map}
use Rattle.rsml_syntax.specs.declared.syntax.Spec.{Spec}
use Rattle.rsml_meaning.specs.Words.{Instance, Path, same_instance, same_path, place_in}
use Rattle.rsml_meaning.specs.Instances.{State}
use Rattle.rsml_meaning.specs.Cells.{cells}
use Rattle.rsml_meaning.specs.Interfaces.{Definition, macro_table, function_cases, definitions, receives, sends}

-- the place of the cell that holds the number of an input
abbrev pub cell_place : Spec → Instance → Option ℕ
cell_place s x = position_from (λ c. not c.previous && same_instance x c.input) 0 (cells s)

-- the place of the cell that holds its previous number
abbrev pub previous_place : Spec → Instance → Option ℕ
previous_place s x = position_from (λ c. c.previous && same_instance x c.input) 0 (cells s)

-- the place of the state of a path
abbrev pub path_place : List State → Path → Option ℕ
path_place xs p = position_from (λ x. same_path p x.path) 0 xs

-- the path of the state at a place
abbrev pub path_at : List State → ℕ → Option Path
path_at xs node = option_map (λ x. x.path) (slice_get xs node)

-- the instance that is defined
abbrev pub defined : Definition → Instance
defined (macro_table i rows) = i
defined (function_cases f) = f.function

-- the place of the macro or function instance, in their one list
abbrev pub definition_place : Spec → Instance → Option ℕ
definition_place s x = place_in (map defined (definitions s)) x

-- the place of the receive instance
abbrev pub receive_place : Spec → Instance → Option ℕ
receive_place s x = place_in (map (λ r. r.receive) (receives s)) x

-- the place of the send instance
abbrev pub send_place : Spec → Instance → Option ℕ
send_place s x = place_in (sends s) x
