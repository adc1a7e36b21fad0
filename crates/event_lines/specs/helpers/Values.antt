-- What a value and the fields of a line come to, one after another.
use Rattle.std.specs.Prelude.{◌+◌, List, [], ◌∷◌, ◌++◌, length, drop, Option, Some, None, Result, Ok, Err, if◌then◌else◌, ℤ, nat_eq, codes}
use Rattle.std.specs.List.{starts_with}
use Rattle.rsml_syntax.specs.text.Names.{Name}
use Rattle.rsml_meaning.specs.Cells.{InputType, is_of}
use Rattle.rsml_meaning.specs.EventLines.{Bytes, value_number}
use Rattle.event_lines.specs.declared.line_fault.LineFault.{LineFault}
use Rattle.event_lines.specs.declared.line_fault.LineFault.TheVariants.{WrongField, ExtraWord, NotAValue, OutOfRange}

-- the number that a text is of a type, or the rule that it breaks
abbrev pub read_value : InputType → Bytes → Result ℤ LineFault
read_value t text = elim (value_number (t, text)) [ None ↦ Err NotAValue | Some n ↦ if is_of t n then Ok n else Err OutOfRange ]

-- a field: its name and its type
abbrev pub TypedField : Type 0
TypedField = Name × InputType

-- what stands behind the field's name and `=` in a word that begins so
abbrev pub value_text : Name → Bytes → Option Bytes
value_text name word = if starts_with nat_eq word (name ++ codes "=") then Some (drop (length name + 1) word) else None

-- the lower of two rules that values break
abbrev pub lower : LineFault → LineFault → LineFault
lower NotAValue other = NotAValue
lower _ other = other

-- the same where the first may be none
abbrev pub lower_of : Option LineFault → LineFault → LineFault
lower_of None other = other
lower_of (Some e) other = lower e other

-- the numbers of fields, or the lowest rule that they break
abbrev pub Numbers : Type 0
Numbers = Result (List ℤ) LineFault

-- those of one field more
abbrev pub with_value : Numbers → Result ℤ LineFault → Numbers
with_value (Ok ns) (Ok n) = Ok (ns ++ (n ∷ []))
with_value (Ok ns) (Err e) = Err e
with_value (Err e) (Ok n) = Err e
with_value (Err e) (Err other) = Err (lower e other)

-- those that are kept as a fault and as numbers
abbrev pub kept : Option LineFault → List ℤ → Numbers
kept None ns = Ok ns
kept (Some e) ns = Err e

-- those of more fields, which are to stand in these words
abbrev pub field_numbers : List TypedField → List Bytes → Numbers → Numbers
field_numbers [] [] so_far = so_far
field_numbers [] (word ∷ words) so_far = Err ExtraWord
field_numbers (f ∷ fs) [] so_far = Err WrongField
field_numbers (f ∷ fs) (word ∷ words) so_far = elim (value_text f.0 word) [
  | None ↦ Err WrongField
  | Some text ↦ field_numbers fs words (with_value so_far (read_value f.1 text))
]
