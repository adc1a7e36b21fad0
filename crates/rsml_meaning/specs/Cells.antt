-- The types of inputs, and the cells: one for each instance of an input, and for some a previous cell.
use Rattle.std.specs.Prelude.{Bool, true, false, ◌&&◌, List, [], ◌++◌, map, ℤ, pos, int_le, flat_map, filter}
use Rattle.std.specs.Option.{option_map_or}
use Rattle.rsml_syntax.specs.declared.syntax.Spec.{Spec}
use Rattle.rsml_syntax.specs.declared.syntax.Decl.{Decl}
use Rattle.rsml_syntax.specs.declared.syntax.Decl.TheVariants as decl
use Rattle.rsml_syntax.specs.declared.syntax.Initial.{Initial}
use Rattle.rsml_syntax.specs.declared.syntax.Initial.TheVariants as initials
use Rattle.rsml_syntax.specs.text.Names.{Name}
use Rattle.rsml_syntax.specs.rules.Globals.{Globals, Known, meaning, number, signed, values_of}
use Rattle.rsml_syntax.specs.limits.Thresholds.{type_ends}
use Rattle.rsml_syntax.specs.limits.Previous.{names_previous}
use Rattle.rsml_meaning.specs.Words.{Instance}
use Rattle.rsml_meaning.specs.Instances.{globals_of, instances}

-- The type of an input: its least and its greatest number, and for an enumeration the names of 0, 1, 2 and so on.
pub record InputType : Type 0 where
  pub low : ℤ
  pub high : ℤ
  pub names : List Name

-- a type of its ends and its names
abbrev pub new_type : ℤ × ℤ → List Name → InputType
new_type ends names = record { low = ends.0; high = ends.1; names = names }

-- what a name that is no type stands for
abbrev pub no_type : InputType
no_type = new_type (pos 0, pos 0) []

-- the type of this name
abbrev pub type_named : Globals → Name → InputType
type_named g name = option_map_or (λ k. new_type (type_ends k) (values_of k.decl)) (meaning g name) no_type

-- the type of what is known of an input
abbrev pub type_by : Globals → Known → InputType
type_by g k = elim k.decl [ decl.Input _ _ type_name _ ↦ type_named g type_name | _ ↦ no_type ]

-- the type of the input of this name
abbrev pub input_type : Globals → Name → InputType
input_type g name = option_map_or (type_by g) (meaning g name) no_type

-- a number of the type
abbrev pub is_of : InputType → ℤ → Bool
is_of t n = int_le t.low n && int_le n t.high

-- A cell: the instance of an input whose number it holds, or for a previous cell held before the last event of the
-- input; the numbers that it may hold, and its first number.
pub record InputCell : Type 0 where
  pub input : Instance
  pub previous : Bool
  pub numbers : InputType
  pub initial : ℤ

-- the number that an initial value writes
abbrev pub initial_number : Globals → Initial → ℤ
initial_number g (initials.Number n) = signed n
initial_number g (initials.Name name) = number g name

-- the cell of an instance, with its type and first number
abbrev pub new_cell : InputType → ℤ → Instance → InputCell
new_cell numbers initial input = record { input = input; previous = false; numbers = numbers; initial = initial }

-- the cells that a declaration makes
abbrev pub cells_of : Globals → Decl → List InputCell
cells_of g (decl.Input name size type_name initial) = map (new_cell (type_named g type_name) (initial_number g initial)) (instances g name size)
cells_of g _ = []

-- the cells of all inputs
abbrev pub own_cells : Spec → List InputCell
own_cells s = flat_map (cells_of (globals_of s)) s.decls

-- the previous cell of a cell
abbrev pub as_previous : InputCell → InputCell
as_previous c = record c { previous = true }

-- the previous cells of the inputs that stand after `previous` somewhere
abbrev pub previous_cells : Spec → List InputCell
previous_cells s = map as_previous (filter (λ c. names_previous s c.input.name) (own_cells s))

-- the cells, and after them the previous cells
abbrev pub cells : Spec → List InputCell
cells s = own_cells s ++ previous_cells s
