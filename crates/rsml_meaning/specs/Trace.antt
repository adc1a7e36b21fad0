-- The trace of a run.
use Rattle.std.specs.Prelude.{ℕ, List, [], ◌∷◌, ◌++◌, length, Option, Some, None, ℤ, flat_map, codes, decimal}
use Rattle.std.specs.Option.{option_map_or}
use Rattle.rsml_syntax.specs.declared.syntax.Spec.{Spec}
use Rattle.rsml_syntax.specs.declared.syntax.Value.{Value}
use Rattle.rsml_syntax.specs.declared.syntax.Value.TheVariants as values
use Rattle.rsml_syntax.specs.declared.syntax.Answer.TheVariants as answers
use Rattle.rsml_syntax.specs.text.Names.{Name}
use Rattle.rsml_syntax.specs.rules.Globals.{Globals, meaning, values_of}
use Rattle.rsml_syntax.specs.rules.Kinds.{Kind, Values, sum_kind, function_cases}
use Rattle.rsml_meaning.specs.Words.{Instance, numbered, ordinal_of, item_of}
use Rattle.rsml_meaning.specs.Instances.{globals_of}
use Rattle.rsml_meaning.specs.Interfaces.{SendCaseInstance}
use Rattle.rsml_meaning.specs.Steps.{Sent, Round}
use Rattle.rsml_meaning.specs.Runs.{Reaction}
use Rattle.rsml_meaning.specs.Texts.{Text, text_line, instance_text, label, value_text}

-- the kind of a value; a function has that of its first case
abbrev pub value_kind : Globals → Value → Option Kind
value_kind g (values.Sum x) = sum_kind g x
value_kind g (values.Function f) = elim (function_cases g f.name) [ [] ↦ None | c ∷ cs ↦ sum_kind g c.value ]

-- the names of an enumeration's values; none for numbers
abbrev pub names_of_kind : Globals → Option Kind → List Name
names_of_kind g (Some (Values name)) = option_map_or (λ k. values_of k.decl) (meaning g name) []
names_of_kind g _ = []

-- The lines.

-- A field that is sent: its name, the value that the case gives it, and the number of this value.
pub record SentField : Type 0 where
  pub name : Name
  pub value : Value
  pub number : ℤ

-- the fields, of their names, values and numbers
abbrev pub sent_fields : List Name → List Value → List ℤ → List SentField
sent_fields (name ∷ names) (value ∷ values) (number ∷ numbers) = record { name = name; value = value; number = number } ∷ sent_fields names values numbers
sent_fields _ _ _ = []

-- ` Field=value`
abbrev pub field_text : Globals → SentField → Text
field_text g f = codes " " ++ (f.name ++ (codes "=" ++ value_text (names_of_kind g (value_kind g f.value)) f.number))

-- the send instance and its fields
abbrev pub send_text : Globals → SendCaseInstance → List Value → List ℤ → Text
send_text g c values numbers = instance_text c.send ++ flat_map (field_text g) (sent_fields c.fields values numbers)

-- nothing for a quiet case
abbrev pub send_line : Globals → Sent → Text
send_line g c = elim c.send_case.answer [ answers.Quiet ↦ [] | answers.Values values ↦ text_line (codes "    send " ++ send_text g c.send_case values c.values) ]

-- `round R` and the present events
abbrev pub round_line : ℕ → List Instance → Text
round_line n present = text_line (codes "  round " ++ (decimal n ++ flat_map (λ e. codes " " ++ instance_text e) present))

-- a round with its number: what is present, what is taken, what is sent
abbrev pub round_text : Globals → ℕ × Round → Text
round_text g r =
    round_line (ordinal_of r) (item_of r).present
    ++ (flat_map (λ t. text_line (codes "    take " ++ label t)) (item_of r).taken ++ flat_map (send_line g) (item_of r).sent)

-- `event N INTERFACE`
abbrev pub event_line : ℕ → Instance → Text
event_line n receive = text_line (codes "event " ++ (decimal n ++ (codes " " ++ instance_text receive)))

-- what one event does, with its number
abbrev pub reaction_text : Globals → ℕ × Reaction → Text
reaction_text g r = event_line (ordinal_of r) (item_of r).receive ++ flat_map (round_text g) (numbered (item_of r).rounds)

-- the trace without its last line
abbrev pub trace_text : Spec → List Reaction → Text
trace_text s rs = flat_map (reaction_text (globals_of s)) (numbered rs)

-- `end` and the number of event lines
abbrev pub end_line : List Reaction → Text
end_line rs = text_line (codes "end " ++ decimal (length rs))

-- the whole trace
abbrev pub whole_trace : Spec → List Reaction → Text
whole_trace s rs = trace_text s rs ++ end_line rs
