-- What the declarations of global names give.
use Rattle.std.specs.Prelude.{ℕ, ◌+◌, List, [], ◌∷◌, ◌++◌, map, length, Option, Some, None, replicate}
use Rattle.std.specs.Option.{option_map, option_and_then}
use Rattle.rsml_syntax.specs.declared.syntax.Decl.{Decl}
use Rattle.rsml_syntax.specs.declared.syntax.Decl.TheVariants as decl
use Rattle.rsml_syntax.specs.text.Names.{Name}
use Rattle.rsml_syntax.specs.rules.Globals.{names_of, values_of, globals, meaning}
use Rattle.rsml_syntax.specs.limits.Thresholds.{type_ends}
use Rattle.rsml_meaning.specs.Cells.{InputType, new_type, no_type}

-- the number of the declaration of each global name, where the first has this number
abbrev pub owners_from : ℕ → List Decl → List ℕ
owners_from n [] = []
owners_from n (d ∷ ds) = replicate (length (names_of d)) n ++ owners_from (n + 1) ds

-- the declaration of a global name
abbrev pub declared_by : List Decl → Name → Option Decl
declared_by ds name = option_map (λ k. k.decl) (meaning (globals ds) name)

-- the type that a declaration makes
abbrev pub type_of : Decl → InputType
type_of d = new_type (type_ends (record { decl = d; value = None })) (values_of d)

-- the types of declarations, and at last that of what is no type
abbrev pub types_of : List Decl → List InputType
types_of ds = map type_of ds ++ (no_type ∷ [])

-- the name of the type that an input is declared with
abbrev pub type_name_of : Decl → Option Name
type_name_of d = elim d [ decl.Input _ _ kind _ ↦ Some kind | _ ↦ None ]

-- the same of the input of this name
abbrev pub type_name : List Decl → Name → Option Name
type_name ds name = option_and_then type_name_of (declared_by ds name)

-- the declaration of the type of this input
abbrev pub type_decl : List Decl → Name → Option Decl
type_decl ds name = option_and_then (declared_by ds) (type_name ds name)
