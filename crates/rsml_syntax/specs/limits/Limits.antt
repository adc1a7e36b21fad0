-- The limits L1 to L7: what is counted, and the greatest count that keeps each.
use Rattle.std.specs.Prelude.{◌≡◌, ℕ, ◌+◌, ◌*◌, true, false, List, [], ◌∷◌, flat_map, find, length, Option, Some, None, if◌then◌else◌, nat_lt}
use Rattle.std.specs.Option.{option_map_or}
pub use Rattle.rsml_base.specs.Counting.{adds, distinct, shown}
use Rattle.rsml_syntax.specs.declared.syntax.Phrase.{Phrase}
use Rattle.rsml_syntax.specs.declared.syntax.Phrase.TheVariants as phrases
use Rattle.rsml_syntax.specs.declared.syntax.Row.{Row}
use Rattle.rsml_syntax.specs.declared.syntax.Decl.TheVariants as decl
use Rattle.rsml_syntax.specs.declared.syntax.Transition.{Transition}
use Rattle.rsml_syntax.specs.declared.syntax.Spec.{Spec}
use Rattle.rsml_syntax.specs.text.Names.{same}
use Rattle.rsml_syntax.specs.rules.Globals.{Globals, globals, size_of, many}
use Rattle.rsml_syntax.specs.grammar.Written.{rows_of, rows_in}
use Rattle.rsml_syntax.specs.limits.Previous.{names_previous}
use Rattle.rsml_syntax.specs.grammar.Parts.{Part, Declared, Opens, Closes, State, parts, nearer, buses_of, transitions_of}
use Rattle.rsml_syntax.specs.rules.Rules.{broken_rule}
use Rattle.rsml_syntax.specs.limits.Comparisons.{Comparison, comparisons}
use Rattle.rsml_syntax.specs.limits.Thresholds.{thresholds, same_threshold, keys, same_key}

-- the sum over all parts
abbrev pub total : (Globals → Part → ℕ) → Spec → ℕ
total count s = adds (count (globals s.decls)) (parts s)

-- The instances of a state, and of each that is in it and is no array. S13 forbids an array inside an array; there the inner
-- one alone would count.
abbrev pub instances : Globals → State → ℕ
instances g s = many g (nearer s.size s.array)

-- L1: state instances
abbrev pub states_at : Globals → Part → ℕ
states_at g (Opens s) = instances g s
states_at g _ = 0

-- the ground sources of a transition: the members of a bus, or the one child
abbrev pub sources : State → Transition → ℕ
sources s t = option_map_or (λ b. length b.members) (find (λ b. same b.name t.source) (buses_of s.body)) 1

-- L2: ground transitions
abbrev pub transitions_at : Globals → Part → ℕ
transitions_at g (Closes s) = instances g s * adds (sources s) (transitions_of s.body)
transitions_at g _ = 0

-- L3: event instances
abbrev pub events_at : Globals → Part → ℕ
events_at g (Declared _ (decl.Event _ size)) = many g size
events_at g _ = 0

-- L4: cells, and as many previous cells of an input that is named after `previous`
abbrev pub cells_at : Spec → Globals → Part → ℕ
cells_at s g (Declared _ (decl.Input name size _ _)) = many g size * (if names_previous s name then 2 else 1)
cells_at s g _ = 0

-- L5: macro and function instances together
abbrev pub definitions_at : Globals → Part → ℕ
definitions_at g (Declared _ (decl.Macro _ size _)) = many g size
definitions_at g (Declared _ (decl.Function _ size _)) = many g size
definitions_at g _ = 0

-- the ground rows of a row: a quantified one counts as its bound
abbrev pub ground_rows : Globals → Row → ℕ
ground_rows g row = of row.phrase
  where
    of : Phrase → ℕ
    of (phrases.Plain _) = 1
    of (phrases.Any _ bound _) = many g (Some bound)
    of (phrases.Every _ bound _) = many g (Some bound)

-- L6: ground rows, of every instance and of every member of a bus
abbrev pub rows_at : Globals → Part → ℕ
rows_at g (Declared _ d) = many g (size_of d) * adds (ground_rows g) (rows_in d)
rows_at g (Opens _) = 0
rows_at g (Closes s) = instances g s * adds (λ t. sources s t * adds (ground_rows g) (rows_of t.guard)) (transitions_of s.body)

-- the ground comparisons of all tables
abbrev pub all_comparisons : Spec → List Comparison
all_comparisons s = flat_map (comparisons (globals s.decls)) (parts s)

-- L7: the thresholds of all cells and the keys of linear comparisons
abbrev pub thresholds_and_keys : Spec → ℕ
thresholds_and_keys s =
    length (distinct same_threshold (flat_map (thresholds (globals s.decls)) (all_comparisons s)))
    + length (distinct same_key (flat_map keys (all_comparisons s)))

-- A limit, by its number: what it counts, and the greatest count that keeps it.
pub record Limit : Type 0 where
  pub number : ℕ
  pub count : Spec → ℕ
  pub greatest : ℕ

-- the limit of this number
abbrev pub limit : ℕ → (Spec → ℕ) → ℕ → Limit
limit number count greatest = record { number = number; count = count; greatest = greatest }

-- L1 to L7
abbrev pub limits : List Limit
limits =
    limit 1 (total states_at) 4096
    ∷ limit 2 (total transitions_at) 8192
    ∷ limit 3 (total events_at) 1024
    ∷ limit 4 (λ s. total (cells_at s) s) 1024
    ∷ limit 5 (total definitions_at) 8192
    ∷ limit 6 (total rows_at) 65536
    ∷ limit 7 thresholds_and_keys 2048
    ∷ []

-- the first limit whose count is greater than its greatest, with that count
abbrev pub first_over : Spec → List Limit → Option (ℕ × ℕ)
first_over s [] = None
first_over s (l ∷ ls) = elim (nat_lt l.greatest (l.count s)) [ true ↦ Some (l.number, shown (l.count s)) | false ↦ first_over s ls ]

-- the lowest limit that is broken, with the count that is shown
abbrev pub over : Spec → Option (ℕ × ℕ)
over s = first_over s limits

-- It keeps the rules and the limits.
pub record Keeps (s : Spec) : Type 0 where
  pub rules : broken_rule s ≡ None
  pub limits : over s ≡ None
