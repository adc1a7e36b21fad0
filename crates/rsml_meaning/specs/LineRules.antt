-- When an event line breaks E1 to E7, each rule in a sentence, and what a line tells that breaks none.
use Rattle.std.specs.Prelude.{◌≡◌, ℕ, ◌<◌, ◌≤◌, false, ◌⊎◌, List, [], ◌∷◌, ◌++◌, map, length, drop, Option, Some, None, ℤ, zip, codes}
use Rattle.std.specs.Str.{is_utf8}
use Rattle.rsml_syntax.specs.declared.syntax.Spec.{Spec}
use Rattle.rsml_syntax.specs.declared.syntax.Amount.{Amount}
use Rattle.rsml_syntax.specs.text.Names.{Name}
use Rattle.rsml_syntax.specs.rules.Globals.{Globals, many}
use Rattle.rsml_meaning.specs.Words.{IsOne, AllThree}
use Rattle.rsml_meaning.specs.Instances.{globals_of}
use Rattle.rsml_meaning.specs.Cells.{input_type, is_of}
use Rattle.rsml_meaning.specs.Interfaces.{new_receive}
use Rattle.rsml_meaning.specs.EventLines.{Bytes, words, digits_number, value_number, Interface, interface, name_part, index_part, LineRule, E1, E2, E3, E4, E5, E6, E7, Message}

-- The parts of a line.

-- the first word of a line
abbrev pub first_word : List Bytes → Bytes
first_word [] = []
first_word (word ∷ words) = word

-- the name that the first word has, up to its first `[`
abbrev pub name_text : Bytes → Name
name_text line = name_part (first_word (words line))

-- the rest of the first word
abbrev pub index_text : Bytes → Bytes
index_text line = index_part (first_word (words line))

-- the words after the first
abbrev pub field_words : Bytes → List Bytes
field_words line = drop 1 (words line)

-- the receive of the name that the first of these words has
abbrev pub receive_named : Globals → List Bytes → Option Interface
receive_named g [] = None
receive_named g (word ∷ words) = interface g (name_part word)

-- the fact holds of the receive that the line names
abbrev pub OfReceive : Spec → Bytes → (Interface → Type 0) → Type 0
OfReceive s line P = (i : Interface) × (receive_named (globals_of s) (words line) ≡ Some i) × P i

-- the names of the fields
abbrev pub field_names : Interface → List Name
field_names i = map (λ m. m.name) i.inputs

-- the text tells this index: nothing where there is no size, else a number from 1 to the size in brackets
abbrev pub TellsIndex : Globals → Option Amount → Bytes → ℕ → Type 0
TellsIndex g None text index = (text ≡ []) × (index ≡ 0)
TellsIndex g (Some size) text index =
    (digits : Bytes) × (text ≡ codes "[" ++ (digits ++ codes "]")) × (digits_number digits ≡ Some index) × (1 ≤ index) × (index ≤ many g (Some size))

-- `FIELD=VALUE`
abbrev pub field_word : Name → Bytes → Bytes
field_word name value = name ++ (codes "=" ++ value)

-- the word in the place of the field is its name, `=` and this value
abbrev pub HasValue : Interface → Bytes → Name → Bytes → Type 0
HasValue i line name value = IsOne (name, field_word name value) (zip (field_names i) (field_words line))

-- When a line breaks a rule.

-- E1: the line is not UTF-8
abbrev pub BreaksE1 : Bytes → Type 0
BreaksE1 line = is_utf8 line ≡ false

-- E2: its first word, up to a `[`, is the name of no receive
abbrev pub BreaksE2 : Spec → Bytes → Type 0
BreaksE2 s line = receive_named (globals_of s) (words line) ≡ None

-- E3: the rest of the first word does not tell an index of the receive
abbrev pub BreaksE3 : Spec → Bytes → Type 0
BreaksE3 s line = OfReceive s line (λ i. (index : ℕ) → TellsIndex (globals_of s) i.size (index_text line) index → ⊥)

-- the word does not begin with the field's name and `=`
abbrev pub IsNoField : Name → Bytes → Type 0
IsNoField name word = (value : Bytes) → word ≡ field_word name value → ⊥

-- for some field the word in its place is missing, or does not begin with the field's name and `=`
abbrev pub LacksField : List Name → List Bytes → Type 0
LacksField names words = (length words < length names) ⊎ ((name : Name) × (word : Bytes) × IsOne (name, word) (zip names words) × IsNoField name word)

-- E4: the words after the first lack a field of the receive
abbrev pub BreaksE4 : Spec → Bytes → Type 0
BreaksE4 s line = OfReceive s line (λ i. LacksField (field_names i) (field_words line))

-- E5: after the first there are more words than fields
abbrev pub BreaksE5 : Spec → Bytes → Type 0
BreaksE5 s line = OfReceive s line (λ i. length (field_names i) < length (field_words line))

-- E6: some value is not digits with `-` or nothing before them, for a range, or is none of the names, for an enumeration
abbrev pub BreaksE6 : Spec → Bytes → Type 0
BreaksE6 s line = OfReceive s line (λ i. (name : Name) × (value : Bytes) × HasValue i line name value × (value_number (input_type (globals_of s) name, value) ≡ None))

-- E7: some number is not in its input's range
abbrev pub BreaksE7 : Spec → Bytes → Type 0
BreaksE7 s line = OfReceive s line (λ i. (name : Name) × (value : Bytes) × (n : ℤ) × HasValue i line name value
    × (value_number (input_type (globals_of s) name, value) ≡ Some n) × (is_of (input_type (globals_of s) name) n ≡ false))

-- the line breaks the rule
abbrev pub Breaks : Spec → Bytes → LineRule → Type 0
Breaks s line E1 = BreaksE1 line
Breaks s line E2 = BreaksE2 s line
Breaks s line E3 = BreaksE3 s line
Breaks s line E4 = BreaksE4 s line
Breaks s line E5 = BreaksE5 s line
Breaks s line E6 = BreaksE6 s line
Breaks s line E7 = BreaksE7 s line

-- the number of a rule
abbrev pub rule_number : LineRule → ℕ
rule_number E1 = 1
rule_number E2 = 2
rule_number E3 = 3
rule_number E4 = 4
rule_number E5 = 5
rule_number E6 = 6
rule_number E7 = 7

-- The line breaks the rule, and no lower one.
pub record BreaksLowest (s : Spec) (line : Bytes) (rule : LineRule) : Type 0 where
  pub broken : Breaks s line rule
  pub no_lower : (lower : LineRule) → rule_number lower < rule_number rule → Breaks s line lower → ⊥

-- What a line tells.

-- the word of a field gives its input this number
abbrev pub GivesNumber : Globals → Name → Bytes → ℤ → Type 0
GivesNumber g name word n = (value : Bytes) × (word ≡ field_word name value) × (value_number (input_type g name, value) ≡ Some n)

-- The line breaks no rule, and the event is of the receive instance that its first word names, with the numbers of its fields.
pub record TellsEvent (s : Spec) (line : Bytes) (m : Message) : Type 0 where
  pub unbroken : (rule : LineRule) → Breaks s line rule → ⊥
  pub interface : Interface
  pub named : receive_named (globals_of s) (words line) ≡ Some interface
  pub index : ℕ
  pub told : TellsIndex (globals_of s) interface.size (index_text line) index
  pub receive : m.receive ≡ new_receive (globals_of s) (name_text line) interface.inputs interface.raised index
  pub numbers : AllThree (GivesNumber (globals_of s)) (field_names interface) (field_words line) m.numbers
