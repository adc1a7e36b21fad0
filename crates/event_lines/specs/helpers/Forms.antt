-- How the lines of receives are written.
use Rattle.std.specs.Prelude.{◌≡◌, ℕ, ◌+◌, ◌-◌, ◌<◌, Bool, true, false, List, [], ◌∷◌, map, length, get_or, slice_get, Option, Some, None, is_some, nat_lt, if◌then◌else◌}
use Rattle.std.specs.Option.{option_map, option_and_then}
use Rattle.rsml_syntax.specs.declared.syntax.Spec.{Spec}
use Rattle.rsml_syntax.specs.declared.syntax.Decl.{Decl}
use Rattle.rsml_syntax.specs.declared.syntax.Decl.TheVariants as decl
use Rattle.rsml_syntax.specs.declared.syntax.Mention.{Mention}
use Rattle.rsml_syntax.specs.text.Names.{Name}
use Rattle.rsml_syntax.specs.rules.Globals.{Globals, globals, many}
use Rattle.rsml_meaning.specs.Words.{Each}
use Rattle.rsml_meaning.specs.Cells.{InputType, no_type, input_type}
use Rattle.rsml_meaning.specs.Interfaces.{new_receive, receives_of, receives}
use Rattle.rsml_meaning.specs.EventLines as lines
use Rattle.event_lines.specs.declared.field.Field.{Field}
use Rattle.event_lines.specs.declared.form.Form.{Form}
use Rattle.event_lines.specs.helpers.Declared.{types_of}
use Rattle.event_lines.specs.helpers.Values.{TypedField}

-- the name of a field, and its type
abbrev pub field_of : List InputType → Field → TypedField
field_of types f = (f.name.now, get_or types f.kind no_type)

-- those of an input that a receive lists
abbrev pub listed : Globals → Mention → TypedField
listed g m = (m.name, input_type g m.name)

-- the types of the fields are among so many
abbrev pub AreWithin : ℕ → List Field → Type 0
AreWithin count fs = Each (λ f. f.kind < count) fs

-- the index that the rest of the first word tells, of an array of so many or of a single receive
abbrev pub index_of : Bool → ℕ → lines.Bytes → Option ℕ
index_of false many text = if lines.is_empty text then Some 0 else None
index_of true many text = option_and_then (lines.up_to_size many) (option_and_then lines.digits_number (lines.in_brackets text))

-- What is written of a receive: the place of its first instance, how many there are, whether it is an array, and its fields.
pub record Written : Type 0 where
  pub first : ℕ
  pub many : ℕ
  pub is_array : Bool
  pub fields : List TypedField

-- what is written of a form
abbrev pub written : List InputType → Form → Written
written types f = record { first = f.first; many = f.many; is_array = f.is_array; fields = map (field_of types) f.fields.items }

-- what a declaration asks for, the first receive of which has this place
abbrev pub declared : Globals → ℕ → Decl → Option Written
declared g first d = elim d [
  | decl.Receive _ size inputs _ ↦ Some (record { first = first; many = many g size; is_array = is_some size; fields = map (listed g) inputs })
  | _ ↦ None
]

-- what declarations ask for
abbrev pub declared_from : Globals → ℕ → List Decl → List (Option Written)
declared_from g first [] = []
declared_from g first (d ∷ ds) = declared g first d ∷ declared_from g (first + length (receives_of g d)) ds

-- the place of the first receive behind those of a form
abbrev pub after : ℕ → Option Form → ℕ
after first None = first
after first (Some f) = f.first + f.many

-- the types of a form's fields are among so many, where there is a form
abbrev pub IsWithin : ℕ → Option Form → Type 0
IsWithin count None = Unit {0}
IsWithin count (Some f) = AreWithin count f.fields.items

-- The forms are those of the declarations.
pub record AreForms (ds : List Decl) (types : List InputType) (forms : List (Option Form)) : Type 0 where
  pub types_are : types ≡ types_of ds
  pub forms_are : map (option_map (written types)) forms ≡ declared_from (globals ds) 0 ds
  pub within : Each (IsWithin (length ds + 1)) forms

-- The form is that of the receive of this name.
pub record IsFormOf (s : Spec) (name : Name) (f : Form) : Type 0 where
  pub interface : lines.Interface
  pub named : lines.interface (globals s.decls) name ≡ Some interface
  pub is_array : f.is_array ≡ is_some interface.size
  pub many : f.many ≡ many (globals s.decls) interface.size
  pub fields : map (field_of (types_of s.decls)) f.fields.items ≡ map (listed (globals s.decls)) interface.inputs
  pub within : AreWithin (length s.decls + 1) f.fields.items
  pub there : (text : lines.Bytes) (index : ℕ) → index_of f.is_array f.many text ≡ Some index →
      slice_get (receives s) (f.first + (index - 1)) ≡ Some (new_receive (globals s.decls) name interface.inputs interface.raised index)

-- how many fields a form has, if there are receives that have them
abbrev pub fields_of : Form → ℕ
fields_of f = if nat_lt 0 f.many then length f.fields.items else 0

-- the same where there may be no form
abbrev pub fields_in : Option Form → ℕ
fields_in None = 0
fields_in (Some f) = fields_of f
