-- The limits, in examples: what just keeps each and what just breaks it. And the rules that bound a count.
use Rattle.std.specs.Prelude.{◌≡◌, ℕ, ◌/◌, ◌%◌, ◌+◌, List, [], ◌∷◌, map, replicate, Some, None, refl}
use Rattle.rsml_syntax.specs.declared.syntax.Relation.TheVariants as relations
use Rattle.rsml_syntax.specs.declared.syntax.Decl.{Decl}
use Rattle.rsml_syntax.specs.declared.syntax.Decl.TheVariants as decl
use Rattle.rsml_syntax.specs.declared.syntax.Index.TheVariants as indices
use Rattle.rsml_syntax.specs.declared.syntax.Row.{Row}
use Rattle.rsml_syntax.specs.declared.syntax.Body.{Body, Basic}
use Rattle.rsml_syntax.specs.text.Names.{Name}
use Rattle.rsml_syntax.specs.rules.Rules.{broken_rule}
use Rattle.rsml_syntax.specs.limits.Limits as limit
use Rattle.rsml_syntax.specs.limits.Limits.{over, Keeps, total, rows_at}
use Rattle.rsml_syntax.proofs.Examples.Writing.{up_to, plus, plain, previous, single, num, in_state, compare, row, some, always, table, range, from, input, event, macro, case, function, Child, state, array, all, one, bus, stay, spec, shown, numbers}

-- the name of a number, in two letters: Ab is that of 1
abbrev letters : ℕ → Name
letters n = (65 + n / 26) ∷ (97 + n % 26) ∷ []

abbrev basic : ℕ → Child
basic n = record { name = letters n; size = None; body = Basic }

-- RULES THAT BOUND A COUNT

-- S8: a table may have 64 rows
abbrev rows : ℕ → List Row
rows n = replicate n (row (in_state (plain "A" ∷ [])) "T")

a_table_may_have_64_rows : broken_rule (spec (macro "M" None (rows 64) ∷ []) Basic) ≡ None
a_table_may_have_64_rows = refl

a_table_has_at_most_64_rows : broken_rule (spec (macro "M" None (rows 65) ∷ []) Basic) ≡ shown 8 "M"
a_table_has_at_most_64_rows = refl

-- S10: a state may have 64 children, an array counted once
a_state_may_have_64_children : broken_rule (spec [] (all (array "B" (up_to 64) Basic ∷ map basic (numbers 63)))) ≡ None
a_state_may_have_64_children = refl

a_state_has_at_most_64_children : broken_rule (spec [] (all (map basic (numbers 65)))) ≡ shown 10 "A"
a_state_has_at_most_64_children = refl

-- L1: STATE INSTANCES

-- 64 states
abbrev wide : ℕ → Child
wide n = record { name = letters n; size = Some (up_to 64); body = Basic }

-- the top state, 63 arrays of 64 and one of 63
keeps_4096_states : Keeps (spec [] (all (array "Z" (up_to 63) Basic ∷ map wide (numbers 63))))
keeps_4096_states = record { rules = refl; limits = refl }

breaks_4097_states : over (spec [] (all (map wide (numbers 64)))) ≡ Some (1, 4097)
breaks_4097_states = refl

-- L2: GROUND TRANSITIONS

-- 64 children, and n transitions from a bus of them all
abbrev buses_of : ℕ → Body
buses_of n =
    one "Ab" (map basic (numbers 64)) (record { name = letters 0; members = map letters (numbers 64) } ∷ []) (replicate n (stay "Aa" (plain "E") always []))

-- 32 components with 4 transitions from 64 members
keeps_8192_transitions : Keeps (spec (event "E" None ∷ []) (all (array "U" (up_to 32) (buses_of 4) ∷ [])))
keeps_8192_transitions = record { rules = refl; limits = refl }

breaks_8193_transitions :
    over (spec (event "E" None ∷ [])
    (all (array "U" (up_to 32) (buses_of 4) ∷ state "V" (one "S" (state "S" Basic ∷ []) [] (stay "S" (plain "E") always [] ∷ [])) ∷ [])))
    ≡ Some (2, 8193)
breaks_8193_transitions = refl

-- L3: EVENT INSTANCES

abbrev wide_event : ℕ → Decl
wide_event n = decl.Event (letters n) (Some (up_to 64))

keeps_1024_events : Keeps (spec (map wide_event (numbers 16)) Basic)
keeps_1024_events = record { rules = refl; limits = refl }

breaks_1025_events : over (spec (event "E" None ∷ map wide_event (numbers 16)) Basic) ≡ Some (3, 1025)
breaks_1025_events = refl

-- L4: CELLS

abbrev wide_input : ℕ → Decl
wide_input n = input_of (letters n)
  where
    input_of : Name → Decl
    input_of x = decl.Input x (Some (up_to 64)) (82 ∷ []) (from (plus 0))

-- previous Ab[this] < 0, which asks for no threshold
abbrev previous_row : ℕ → Row
previous_row n = row (compare (single (previous (record { name = letters n; index = Some indices.This }))) relations.Less (num 0)) "T"

-- 8 inputs of 64, each with its previous cells
abbrev with_previous : List Decl
with_previous = range "R" (plus 0) (plus 9) ∷ macro "M" (Some (up_to 64)) (map previous_row (numbers 8)) ∷ map wide_input (numbers 8)

keeps_1024_cells : Keeps (spec with_previous Basic)
keeps_1024_cells = record { rules = refl; limits = refl }

breaks_1025_cells : over (spec (input "X" None "R" (from (plus 0)) ∷ with_previous) Basic) ≡ Some (4, 1025)
breaks_1025_cells = refl

-- L5: MACRO AND FUNCTION INSTANCES

abbrev wide_macro : ℕ → Decl
wide_macro n = decl.Macro (letters n) (Some (up_to 64)) (rows 1)

abbrev wide_function : Decl
wide_function = function "V" (Some (up_to 64)) (case (num 1) always ∷ [])

keeps_8192_definitions : Keeps (spec (wide_function ∷ map wide_macro (numbers 127)) Basic)
keeps_8192_definitions = record { rules = refl; limits = refl }

breaks_8193_definitions : over (spec (wide_function ∷ macro "M" None (rows 1) ∷ map wide_macro (numbers 127)) Basic) ≡ Some (5, 8193)
breaks_8193_definitions = refl

-- L6: GROUND ROWS

-- 64 macros with n rows, each quantified up to 64
abbrev quantified : ℕ → Decl
quantified n = macro "M" (Some (up_to 64)) (replicate n (some "k" (up_to 64) (in_state (plain "A" ∷ [])) "T"))

keeps_65536_rows : Keeps (spec (quantified 16 ∷ []) Basic)
keeps_65536_rows = record { rules = refl; limits = refl }

breaks_65537_rows : over (spec (quantified 16 ∷ macro "L" None (rows 1) ∷ []) Basic) ≡ Some (6, 65537)
breaks_65537_rows = refl

-- 3 units, in which a transition from 2 members has a row quantified up to 5 and a plain one; `always` has none
rows_count_for_each_member :
    total rows_at (spec (event "E" None ∷ [])
    (all (array "U" (up_to 3)
    (one "B" (state "B" Basic ∷ state "C" Basic ∷ []) (bus "D" ("B" ∷ "C" ∷ []) ∷ [])
    (stay "D" (plain "E") (table (some "k" (up_to 5) (in_state (plain "A" ∷ [])) "T" ∷ rows 1)) [] ∷ stay "B" (plain "E") always [] ∷ []))
    ∷ [])))
    ≡ 36
rows_count_for_each_member = refl

-- WHAT IS SHOWN

a_count_is_shown : limit.shown 65537 ≡ 65537
a_count_is_shown = refl

a_count_of_more_than_64_bits_is_shown_as_the_greatest : limit.shown 18446744073709551616 ≡ 18446744073709551615
a_count_of_more_than_64_bits_is_shown_as_the_greatest = refl
