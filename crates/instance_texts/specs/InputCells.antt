-- Cells without their first numbers.
use Rattle.std.specs.Prelude.{Bool, Option, Some, None, pos, List}
use Rattle.rsml_syntax.specs.declared.syntax.Decl.{Decl}
use Rattle.rsml_syntax.specs.declared.syntax.Decl.TheVariants as decl
use Rattle.rsml_syntax.specs.text.Names.{Name, is_in}
use Rattle.rsml_syntax.specs.rules.Globals.{Globals, name_of, values_of}
use Rattle.rsml_syntax.specs.limits.Thresholds.{type_ends}
use Rattle.rsml_meaning.specs.Cells.{InputType, InputCell, new_type, no_type, type_named}
use Rattle.instance_texts.specs.Listing.{Listed, instance_of}

-- a cell without its first number, which no text shows
abbrev pub without_first : InputCell → InputCell
without_first c = record c { initial = pos 0 }

-- the type that is declared so
abbrev pub declared_type : Option Decl → InputType
declared_type None = no_type
declared_type (Some d) = new_type (type_ends (record { decl = d; value = None })) (values_of d)

-- the type of the input that is declared so
abbrev pub type_at : Globals → Decl → InputType
type_at g (decl.Input _ _ type_name _) = type_named g type_name
type_at g _ = no_type

-- the cell of an input
abbrev pub cell_at : Globals → Bool → Listed → InputCell
cell_at g previous x = record { input = instance_of x; previous = previous; numbers = type_at g x.decl; initial = pos 0 }

-- the name of the input is one of these
abbrev pub is_named : List Name → Listed → Bool
is_named names x = is_in (name_of x.decl) names
