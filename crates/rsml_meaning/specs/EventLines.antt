-- What an event line says, and which of the rules E1 to E7 it breaks.
use Rattle.std.specs.Prelude.{ℕ, ◌+◌, ◌-◌, ◌*◌, Bool, true, false, not, ◌&&◌, ◌||◌, List, [], ◌∷◌, ◌++◌, map, length, drop, Option, Some, None, if◌then◌else◌, ℤ, pos, neg_ℤ, ◌==◌, nat_eq, nat_le, fold, filter, zip, option_map, option_and_then, codes}
use Rattle.std.specs.List.{list_all, starts_with, before_first}
use Rattle.std.specs.Str.{byte, all_ascii_digits, is_utf8}
use Rattle.rsml_syntax.specs.declared.syntax.Spec.{Spec}
use Rattle.rsml_syntax.specs.declared.syntax.Amount.{Amount}
use Rattle.rsml_syntax.specs.declared.syntax.Mention.{Mention}
use Rattle.rsml_syntax.specs.declared.syntax.Decl.TheVariants as decl
use Rattle.rsml_syntax.specs.text.Names.{Name, place_of}
use Rattle.rsml_syntax.specs.rules.Globals.{Globals, Known, meaning, many}
use Rattle.rsml_meaning.specs.Instances.{globals_of}
use Rattle.rsml_meaning.specs.Cells.{InputType, input_type, is_of}
use Rattle.rsml_meaning.specs.Interfaces.{ReceiveInstance, new_receive}

-- what a file or a line holds
abbrev pub Bytes : Type 0
Bytes = List ℕ

-- Words.

-- a byte that belongs to the first piece
abbrev pub before_pieces : ℕ → List Bytes → List Bytes
before_pieces c [] = (c ∷ []) ∷ []
before_pieces c (piece ∷ more) = (c ∷ piece) ∷ more

-- what stands between the bytes that part a text, before the first and after the last
abbrev pub pieces : (ℕ → Bool) → Bytes → List Bytes
pieces parts [] = [] ∷ []
pieces parts (c ∷ cs) = if parts c then [] ∷ pieces parts cs else before_pieces c (pieces parts cs)

-- a space or a tab
abbrev pub is_blank : ℕ → Bool
is_blank c = c == byte " " || c == byte "\t"

-- there is no byte
abbrev pub is_empty : Bytes → Bool
is_empty [] = true
is_empty (c ∷ cs) = false

-- what is separated by spaces and tabs
abbrev pub words : Bytes → List Bytes
words line = filter (λ piece. not (is_empty piece)) (pieces is_blank line)

-- a line that is empty but for spaces and tabs, or whose first other byte is `#`
abbrev pub is_skipped : Bytes → Bool
is_skipped [] = true
is_skipped (c ∷ cs) = if is_blank c then is_skipped cs else c == byte "#"

-- Numbers and values.

-- one or more digits
abbrev pub is_digits : Bytes → Bool
is_digits text = not (is_empty text) && all_ascii_digits text

-- the number that one or more digits write; none for another text
abbrev pub digits_number : Bytes → Option ℕ
digits_number text = if is_digits text then Some (fold (λ n c. n * 10 + (c - byte "0")) 0 text) else None

-- the same with `-` before the digits or not
abbrev pub signed_number : Bytes → Option ℤ
signed_number [] = None
signed_number (c ∷ cs) = if c == byte "-" then option_map (λ n. neg_ℤ (pos n)) (digits_number cs) else option_map pos (digits_number (c ∷ cs))

-- the number of a value, by the form that the type asks for: digits for a range, one of the names for an enumeration
abbrev pub value_number : InputType × Bytes → Option ℤ
value_number x = elim x.0.names [ [] ↦ signed_number x.1 | n ∷ ns ↦ option_map pos (place_of x.1 (n ∷ ns)) ]

-- all of them, or none where one is missing
abbrev pub all_some : {A : Type 0} → List (Option A) → Option (List A)
all_some [] = Some []
all_some (None ∷ xs) = None
all_some (Some x ∷ xs) = option_map (λ ys. x ∷ ys) (all_some xs)

-- The first word.

-- What a receive is declared with.
pub record Interface : Type 0 where
  pub size : Option Amount
  pub inputs : List Mention
  pub raised : Mention

-- what is known of a receive
abbrev pub interface_by : Known → Option Interface
interface_by k = elim k.decl [ decl.Receive _ size inputs raised ↦ Some (record { size = size; inputs = inputs; raised = raised }) | _ ↦ None ]

-- the receive of this name
abbrev pub interface : Globals → Name → Option Interface
interface g name = option_and_then interface_by (meaning g name)

-- the first word up to its first `[`, or whole
abbrev pub name_part : Bytes → Bytes
name_part word = before_first (λ c. c == byte "[") word

-- the rest of the first word
abbrev pub index_part : Bytes → Bytes
index_part word = drop (length (name_part word)) word

-- what stands before `]` at the end; none where the text does not end so
abbrev pub before_close : Bytes → Option Bytes
before_close [] = None
before_close (c ∷ []) = if c == byte "]" then Some [] else None
before_close (c ∷ d ∷ cs) = option_map (λ inner. c ∷ inner) (before_close (d ∷ cs))

-- what stands between `[` and `]`; none where the text is not in these brackets
abbrev pub in_brackets : Bytes → Option Bytes
in_brackets [] = None
in_brackets (c ∷ cs) = if c == byte "[" then before_close cs else None

-- the number, if it is 1 to the size
abbrev pub up_to_size : ℕ → ℕ → Option ℕ
up_to_size size n = if nat_le 1 n && nat_le n size then Some n else None

-- the index that the rest of the first word tells: 1 to the size in brackets, or 0 by nothing where there is no size
abbrev pub index_told : Globals → Option Amount → Bytes → Option ℕ
index_told g None text = if is_empty text then Some 0 else None
index_told g (Some amount) text = option_and_then (up_to_size (many g (Some amount))) (option_and_then digits_number (in_brackets text))

-- The fields.

-- The values that stand in the words, and the words after the fields.
pub record Fields : Type 0 where
  pub values : List Bytes
  pub more : List Bytes

-- one more value before the others
abbrev pub add_value : Bytes → Fields → Fields
add_value value f = record f { values = value ∷ f.values }

-- the fields' values, where the words begin with each field's name and `=` in turn
abbrev pub fields : List Name → List Bytes → Option Fields
fields [] words = Some (record { values = []; more = words })
fields (name ∷ names) [] = None
fields (name ∷ names) (word ∷ words) =
    if starts_with nat_eq word (name ++ codes "=") then option_map (add_value (drop (length name + 1) word)) (fields names words) else None

-- The line.

-- the rules of a line
pub data LineRule : Type 0 where
  -- it is UTF-8
  E1 : LineRule
  -- its first word, up to a `[`, is the name of a receive
  E2 : LineRule
  -- an index stands there exactly where the receive has a size, and it is 1 to the size
  E3 : LineRule
  -- each field's name and `=` begin the word in the field's place
  E4 : LineRule
  -- there are no more words
  E5 : LineRule
  -- each value is digits with `-` or nothing before them for a range, one of the names for an enumeration
  E6 : LineRule
  -- each number is in its input's range
  E7 : LineRule

-- An event that a line tells: the receive instance, and the numbers of its fields.
pub record Message : Type 0 where
  pub receive : ReceiveInstance
  pub numbers : List ℤ

-- what a line comes to: the lowest rule that it breaks, or an event
pub data Outcome : Type 0 where
  breaks : LineRule → Outcome
  tells : Message → Outcome

-- the values are read by the types of their inputs
abbrev pub read_values : List InputType → ReceiveInstance → List Bytes → Outcome
read_values types receive values = elim (all_some (map value_number (zip types values))) [
  | None ↦ breaks E6
  | Some numbers ↦ if list_all (λ x. is_of x.0 x.1) (zip types numbers) then tells (record { receive = receive; numbers = numbers }) else breaks E7
]

-- the words after the first are the fields, and no more
abbrev pub read_fields : Globals → List Name → ReceiveInstance → List Bytes → Outcome
read_fields g inputs receive words = elim (fields inputs words) [
  | None ↦ breaks E4
  | Some f ↦ elim f.more [ [] ↦ read_values (map (input_type g) inputs) receive f.values | word ∷ more ↦ breaks E5 ]
]

-- the first word tells the instance of a receive
abbrev pub read_instance : Globals → Bytes → Interface → List Bytes → Outcome
read_instance g word i words = elim (index_told g i.size (index_part word)) [
  | None ↦ breaks E3
  | Some index ↦ read_fields g (map (λ m. m.name) i.inputs) (new_receive g (name_part word) i.inputs i.raised index) words
]

-- the first word is the name of a receive, up to a `[`
abbrev pub read_words : Globals → List Bytes → Outcome
read_words g [] = breaks E2
read_words g (word ∷ words) = elim (interface g (name_part word)) [ None ↦ breaks E2 | Some i ↦ read_instance g word i words ]

-- what a line without its line end comes to, where it is not skipped
abbrev pub read_line : Spec → Bytes → Outcome
read_line s line = if is_utf8 line then read_words (globals_of s) (words line) else breaks E1
