-- The tables of names that all judging looks at, and where a mention stands: whether its index is right there (S6).
use Rattle.std.specs.Prelude.{ℕ, Bool, true, false, ◌&&◌, List, [], map, flat_map, find, Option, Some, None, if◌then◌else◌, ℤ, pos, int_le}
use Rattle.std.specs.Option.{option_map, option_map_or, option_and_then}
use Rattle.rsml_syntax.specs.declared.syntax.Amount.{Amount}
use Rattle.rsml_syntax.specs.declared.syntax.Index.{Index}
use Rattle.rsml_syntax.specs.declared.syntax.Index.TheVariants as index
use Rattle.rsml_syntax.specs.declared.syntax.Decl.{Decl}
use Rattle.rsml_syntax.specs.declared.syntax.StateDecl.{StateDecl}
use Rattle.rsml_syntax.specs.text.Names.{Name, same}
use Rattle.rsml_syntax.specs.rules.Globals.{Globals, amount_of, constant}
use Rattle.rsml_syntax.specs.grammar.Parts.{Part, Declared, declared}
use Rattle.rsml_syntax.specs.grammar.Written.{variables_in}

-- A quantifier's variable, and the place of the declaration that it stands in among the global names.
pub record Variable : Type 0 where
  pub name : Name
  pub place : ℕ

-- What all names of a specification stand for.
pub record NameTables : Type 0 where
  pub globals : Globals
  pub variables : List Variable  -- those in declarations, in order
  pub top : Name
  pub children : List StateDecl  -- of the top state

-- the variable in the declaration at this place
abbrev pub variable_at : ℕ → Name → Variable
variable_at place name = record { name = name; place = place }

-- the variables in a declaration
abbrev pub variables_of_part : Part → List Variable
variables_of_part (Declared place d) = map (variable_at place) (variables_in d)
variables_of_part _ = []

-- the variables of declarations, in order
abbrev pub variables : List Decl → List Variable
variables decls = flat_map variables_of_part (declared 0 decls)

-- the place of the first declaration in which a quantifier has a variable of this name
abbrev pub first_bound : NameTables → Name → Option ℕ
first_bound w name = option_map (λ v. v.place) (find (λ v. same name v.name) w.variables)

-- Where a mention stands.
pub record Scope : Type 0 where
  pub before : ℕ  -- the global names with a lower place are declared before it
  pub this : Option ℤ  -- the size of what `this` is an index of
  pub variable : Option (Name × ℤ)  -- that of the quantifier around it, with its bound

-- a number of 1 to the highest
abbrev pub is_up_to : ℤ → ℤ → Bool
is_up_to highest n = int_le (pos 1) n && int_le n highest

-- the number of a size
abbrev pub size_number : Globals → Option Amount → Option ℤ
size_number g size = option_and_then (λ amount. amount_of g amount) size

-- the bound of the variable of this name
abbrev pub bound_of : Scope → Name → Option ℤ
bound_of at name = option_and_then (λ v. if same v.0 name then Some v.1 else None) at.variable

-- a name is an index up to a size: a variable by its bound, else a constant by its number
abbrev pub is_name_index : Globals → ℤ → Name → Option ℤ → Bool
is_name_index g size name (Some bound) = int_le bound size
is_name_index g size name None = option_map_or (λ n. is_up_to size n) (constant g name) false

-- S6: the index, or that there is none, is right at a name of this size
abbrev pub is_indexed : Globals → Scope → Option ℤ → Option Index → Bool
is_indexed g at None None = true
is_indexed g at None (Some _) = false
is_indexed g at (Some size) None = false
is_indexed g at (Some size) (Some (index.Number n)) = is_up_to size (pos n)
is_indexed g at (Some size) (Some (index.Name name)) = is_name_index g size name (bound_of at name)
is_indexed g at (Some size) (Some index.This) = option_map_or (λ n. int_le n size) at.this false
