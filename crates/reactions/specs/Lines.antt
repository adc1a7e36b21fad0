-- The lines of a round by the numbers of its events, transitions and cases of sends.
use Rattle.std.specs.Prelude.{◌≡◌, ℕ, List, [], ◌++◌, ℤ, map, flat_map, codes, Some, slice_get, slice_index_or}
use Rattle.std.specs.Option.{option_map_or}
use Rattle.rsml_syntax.specs.declared.syntax.Spec.{Spec}
use Rattle.rsml_meaning.specs.Words.{Instance, numbered_from}
use Rattle.rsml_meaning.specs.Instances.{globals_of, events}
use Rattle.rsml_meaning.specs.Transitions.{transitions}
use Rattle.rsml_meaning.specs.Interfaces.{receives, sends, send_cases}
use Rattle.rsml_meaning.specs.Texts.{Text, text_line, instance_text, label, value_text}
use Rattle.rsml_meaning.specs.Trace.{names_of_kind, value_kind, send_line}
use Rattle.instance_texts.specs.SentCases.{sent_value, sent_field}
use Rattle.reactions.specs.declared.part.Part.{Part}
use Rattle.reactions.specs.declared.part.Part.TheVariants as part
use Rattle.reactions.specs.declared.line_parts.LineParts.{LineParts}

-- an event behind a space
abbrev pub spaced : Instance → Text
spaced e = codes " " ++ instance_text e

-- the line of the taken transition of this number, where there is one
abbrev pub take_line : Spec → ℕ → Text
take_line s k = option_map_or (λ t. text_line (codes "    take " ++ label t)) (slice_get (transitions s) k) []

-- these are the lines of the first so many transitions, each at the place of its number
abbrev pub AreTakeLines : Spec → List Text → Type 0
AreTakeLines s lines = (k : ℕ) (line : Text) → slice_get lines k ≡ Some line → line ≡ take_line s k

-- the instance of this number, where there is one
abbrev pub name_at : List Instance → ℕ → Text
name_at xs k = option_map_or instance_text (slice_get xs k) []

-- the same behind a space
abbrev pub spaced_at : List Instance → ℕ → Text
spaced_at xs k = codes " " ++ name_at xs k

-- the part of a line that names the instance of this number: how the line of a receive or of a round ends, that of a first round with one
-- event, or how that of a send begins
abbrev pub part_text : Part → Spec → ℕ → Text
part_text part.Receive s k = text_line (spaced_at (map (λ r. r.receive) (receives s)) k)
part_text part.Event s k = text_line (spaced_at (events s) k)
part_text part.First s k = text_line (codes "  round 1" ++ spaced_at (events s) k)
part_text part.Send s k = codes "    send " ++ name_at (sends s) k

-- these are the texts of a part that name the first so many instances, each at the place of its number
abbrev pub ArePartTexts : Part → Spec → List Text → Type 0
ArePartTexts p s texts = (k : ℕ) (text : Text) → slice_get texts k ≡ Some text → text ≡ part_text p s k

-- these are those of each part
pub record AreParts (s : Spec) (parts : LineParts) : Type 0 where
  pub receives_are : ArePartTexts part.Receive s parts.receives
  pub events_are : ArePartTexts part.Event s parts.events
  pub firsts_are : ArePartTexts part.First s parts.firsts
  pub sends_are : ArePartTexts part.Send s parts.sends

-- these texts, lines and parts are those of a specification
pub record AreTextsOf (s texts sent : Spec) (lines : List Text) (parts : LineParts) : Type 0 where
  pub texts_are : texts ≡ s
  pub sent_are : sent ≡ s
  pub lines_are : AreTakeLines s lines
  pub parts_are : AreParts s parts

-- a number that is sent in the field at a place of the case of this number, where there is one
abbrev pub number_at : Spec → ℕ → ℕ → ℤ → Text
number_at s case place n = option_map_or (λ v. value_text (names_of_kind (globals_of s) (value_kind (globals_of s) v)) n) (sent_value s case place) []

-- ` Field=value` of the field at a place of the case of this number, where there is one
abbrev pub field_at : Spec → ℕ → ℕ × ℤ → Text
field_at s case x = option_map_or (λ name. codes " " ++ (name ++ (codes "=" ++ number_at s case x.0 x.1))) (sent_field s case x.0) []

-- the line of a send of this number, with the fields of the case of a number
abbrev pub line_of : Spec → ℕ → ℕ → List ℤ → Text
line_of s send case numbers =
    text_line (codes "    send " ++ (option_map_or instance_text (slice_get (sends s) send) [] ++ flat_map (field_at s case) (numbered_from 0 numbers)))

-- the line of the case of this number with its values, where there is one that is not quiet
abbrev pub case_line : Spec → ℕ → List ℤ → Text
case_line s case numbers = option_map_or (λ c. send_line (globals_of s) (record { send_case = c; values = numbers })) (slice_get (send_cases s) case) []

-- the same, with the values that are kept for it
abbrev pub sent_line : Spec → List (List ℤ) → ℕ → Text
sent_line s values case = case_line s case (slice_index_or values case [])
