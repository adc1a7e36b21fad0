-- Numbers that are kept for names.
use Rattle.std.specs.Prelude.{◌≡◌, ℕ, List, Some, slice_get}
use Rattle.std.specs.Option.{option_map}
use Rattle.rsml_syntax.specs.declared.syntax.Decl.{Decl}
use Rattle.rsml_syntax.specs.text.Names.{Name, place_of}
use Rattle.rsml_meaning.specs.Words.{IsOne}
use Rattle.event_lines.specs.declared.known.Known.{Known}
use Rattle.event_lines.specs.helpers.Declared.{declared_by}

-- the number is kept for the name
abbrev pub IsKept : List Known → Name → ℕ → Type 0
IsKept ks name n = (k : Known) × IsOne k ks × (k.name.now ≡ name) × (k.number ≡ n)

-- it is the number of the declaration of this name
abbrev pub IsNumberOf : List Decl → Name → ℕ → Type 0
IsNumberOf ds name n = Some (slice_get ds n) ≡ option_map (λ d. Some d) (declared_by ds name)

-- what is kept is the number of a name's declaration
abbrev pub IsKnown : List Decl → Known → Type 0
IsKnown ds k = IsNumberOf ds k.name.now k.number

-- what is kept is the place of a name in a list
abbrev pub IsPlaced : List Name → Known → Type 0
IsPlaced names k = place_of k.name.now names ≡ Some k.number
