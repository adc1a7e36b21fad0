-- The rules on kinds, tables, functions and sums, in examples: which rule is broken at which name, and what is kept.
use Rattle.std.specs.Prelude.{◌≡◌, [], ◌∷◌, None, refl}
use Rattle.rsml_syntax.specs.declared.syntax.Relation.TheVariants as relations
use Rattle.rsml_syntax.specs.declared.syntax.Body.{Basic}
use Rattle.rsml_syntax.specs.rules.Rules.{broken_rule}
use Rattle.rsml_syntax.proofs.Examples.Writing.{plus, minus, plain, number, name, previous, more, less, sum, single, compare, function_is, row, always, table, enumeration, range, constant, from, from_name, input, event, macro, case, function, sent, quiet, answer, on, send, state, one, move, stay, spec, shown, the, num, ones, unarrayed, switched}

-- S7: initial values

-- constant K = 10; range R 0 .. 9; input X : R = K; state A;
an_initial_constant_is_in_its_range :
    broken_rule (spec (constant "K" (plus 10) ∷ range "R" (plus 0) (plus 9) ∷ input "X" None "R" (from_name "K") ∷ []) Basic)
    ≡ shown 7 "X"
an_initial_constant_is_in_its_range = refl

-- constant K = 9; range R 0 .. 9; input X : R = K; state A;
an_initial_constant_may_be_an_end :
    broken_rule (spec (constant "K" (plus 9) ∷ range "R" (plus 0) (plus 9) ∷ input "X" None "R" (from_name "K") ∷ []) Basic)
    ≡ None
an_initial_constant_may_be_an_end = refl

-- range R 0 .. 9; input X : R = -0; state A;
an_initial_minus_0_is_0 : broken_rule (spec (range "R" (plus 0) (plus 9) ∷ input "X" None "R" (from (minus 0)) ∷ []) Basic) ≡ None
an_initial_minus_0_is_0 = refl

-- enumeration Switch { Down, Up } input Lever : Switch = Down; range R 0 .. 9; input X : R = Up; state A;
a_range_begins_with_no_value :
    broken_rule (spec (switched (range "R" (plus 0) (plus 9) ∷ input "X" None "R" (from_name "Up") ∷ [])) Basic)
    ≡ shown 7 "X"
a_range_begins_with_no_value = refl

-- enumeration Switch { Down, Up } input Lever : Switch = Down; input X : Switch = 0; state A;
an_enumeration_begins_with_no_number : broken_rule (spec (switched (input "X" None "Switch" (from (plus 0)) ∷ [])) Basic) ≡ shown 7 "X"
an_enumeration_begins_with_no_number = refl

-- constant K = 0; enumeration Switch { Down, Up } input Lever : Switch = Down; input X : Switch = K; state A;
an_enumeration_begins_with_no_constant :
    broken_rule (spec (constant "K" (plus 0) ∷ switched (input "X" None "Switch" (from_name "K") ∷ [])) Basic)
    ≡ shown 7 "X"
an_enumeration_begins_with_no_constant = refl

-- enumeration Power { Off, On } enumeration Switch { Down, Up } input Lever : Switch = Down; input X : Switch = On; state A;
an_enumeration_begins_with_no_value_of_another :
    broken_rule (spec (enumeration "Power" ("Off" ∷ "On" ∷ []) ∷ switched (input "X" None "Switch" (from_name "On") ∷ [])) Basic)
    ≡ shown 7 "X"
an_enumeration_begins_with_no_value_of_another = refl

-- S7: kinds

-- enumeration Switch { Down, Up } input Lever : Switch = Down; macro M { Lever = Up | T; Up != previous Lever | T; } state A;
an_enumeration_is_compared_with_its_value :
    broken_rule (spec (switched
    (macro "M" None
    (row (compare (the "Lever") relations.Equal (the "Up")) "T"
    ∷ row (compare (the "Up") relations.NotEqual (single (previous (plain "Lever")))) "T"
    ∷ [])
    ∷ []))
    Basic)
    ≡ None
an_enumeration_is_compared_with_its_value = refl

-- enumeration Switch { Down, Up } input Lever : Switch = Down; macro M { Lever = 1 | T; } state A;
an_enumeration_is_compared_with_no_number :
    broken_rule (spec (switched (macro "M" None (row (compare (the "Lever") relations.Equal (num 1)) "T" ∷ []) ∷ [])) Basic)
    ≡ shown 7 "M"
an_enumeration_is_compared_with_no_number = refl

-- enumeration Switch { Down, Up } input Lever : Switch = Down; macro M { Lever < Up | T; } state A;
an_enumeration_is_not_ordered :
    broken_rule (spec (switched (macro "M" None (row (compare (the "Lever") relations.Less (the "Up")) "T" ∷ []) ∷ [])) Basic)
    ≡ shown 7 "M"
an_enumeration_is_not_ordered = refl

-- enumeration Power { Off, On } enumeration Switch { Down, Up } input Lever : Switch = Down; macro M { Lever = On | T; } state A;
two_enumerations_are_not_compared :
    broken_rule (spec
    (enumeration "Power" ("Off" ∷ "On" ∷ [])
    ∷ switched (macro "M" None (row (compare (the "Lever") relations.Equal (the "On")) "T" ∷ []) ∷ []))
    Basic)
    ≡ shown 7 "M"
two_enumerations_are_not_compared = refl

-- enumeration Switch { Down, Up } input Lever : Switch = Down; macro M { -Lever = -Up | T; } state A;
a_value_with_a_minus_has_no_kind :
    broken_rule (spec (switched
    (macro "M" None (row (compare (sum (less (name (plain "Lever")) ∷ [])) relations.Equal (sum (less (name (plain "Up")) ∷ []))) "T" ∷ [])
    ∷ []))
    Basic)
    ≡ shown 7 "M"
a_value_with_a_minus_has_no_kind = refl

-- enumeration Switch { Down, Up } input Lever : Switch = Down; macro M { Lever + 0 = Up + 0 | T; } state A;
a_sum_of_a_value_has_no_kind :
    broken_rule (spec (switched
    (macro "M" None
    (row (compare (sum (more (name (plain "Lever")) ∷ more (number 0) ∷ [])) relations.Equal
    (sum (more (name (plain "Up")) ∷ more (number 0) ∷ [])))
    "T"
    ∷ [])
    ∷ []))
    Basic)
    ≡ shown 7 "M"
a_sum_of_a_value_has_no_kind = refl

-- range R 0 .. 9; input X : R = 0; macro M { X < 100 | T; } state A;
a_range_may_be_compared_with_a_number_outside_it :
    broken_rule (spec (unarrayed (macro "M" None (row (compare (the "X") relations.Less (num 100)) "T" ∷ []) ∷ [])) Basic)
    ≡ None
a_range_may_be_compared_with_a_number_outside_it = refl

-- event E; enumeration Switch { Down, Up } input Lever : Switch = Down; state A one { default B; state B; state C; move B -> C on
-- E when { Lever = 1 | T; }; }
the_source_of_a_transition_is_shown :
    broken_rule (spec (event "E" None ∷ switched []) (one "B" (state "B" Basic ∷ state "C" Basic ∷ []) []
    (move "B" ("C" ∷ []) (plain "E") (table (row (compare (the "Lever") relations.Equal (num 1)) "T" ∷ [])) [] ∷ [])))
    ≡ shown 7 "B"
the_source_of_a_transition_is_shown = refl

-- event E; enumeration Switch { Down, Up } input Lever : Switch = Down; send S (V) { on E when always (-Lever); } state A;
a_sent_sum_has_a_kind :
    broken_rule (spec
    (event "E" None
    ∷ switched (send "S" None ("V" ∷ []) (on (plain "E") always (answer (sent (sum (less (name (plain "Lever")) ∷ [])) ∷ [])) ∷ []) ∷ []))
    Basic)
    ≡ shown 7 "S"
a_sent_sum_has_a_kind = refl

-- enumeration Switch { Down, Up } input Lever : Switch = Down; function V { -Lever when always; } state A;
a_value_of_a_case_has_a_kind :
    broken_rule (spec (switched (function "V" None (case (sum (less (name (plain "Lever")) ∷ [])) always ∷ []) ∷ [])) Basic)
    ≡ shown 7 "V"
a_value_of_a_case_has_a_kind = refl

-- S7: functions

-- enumeration Switch { Down, Up } input Lever : Switch = Down; function V { Up when always; } macro M { function V = 1 | T; } state A;
a_function_has_the_kind_of_its_first_case :
    broken_rule (spec (switched
    (function "V" None (case (the "Up") always ∷ []) ∷ macro "M" None (row (function_is (plain "V") relations.Equal (num 1)) "T" ∷ []) ∷ []))
    Basic)
    ≡ shown 7 "M"
a_function_has_the_kind_of_its_first_case = refl

-- enumeration Switch { Down, Up } input Lever : Switch = Down; function V { Up when always; } macro M { function V < Up | T; } state A;
a_function_of_an_enumeration_is_not_ordered :
    broken_rule (spec (switched
    (function "V" None (case (the "Up") always ∷ [])
    ∷ macro "M" None (row (function_is (plain "V") relations.Less (the "Up")) "T" ∷ [])
    ∷ []))
    Basic)
    ≡ shown 7 "M"
a_function_of_an_enumeration_is_not_ordered = refl

-- enumeration Switch { Down, Up } input Lever : Switch = Down; function V { } macro M { function V < Up | T; } state A;
a_function_without_cases_is_left_to_S15 :
    broken_rule
    (spec (switched (function "V" None [] ∷ macro "M" None (row (function_is (plain "V") relations.Less (the "Up")) "T" ∷ []) ∷ [])) Basic)
    ≡ shown 15 "V"
a_function_without_cases_is_left_to_S15 = refl

-- enumeration Switch { Down, Up } input Lever : Switch = Down; function V { } macro M { function V = -Up | T; } state A;
but_the_other_side_has_a_kind :
    broken_rule (spec (switched
    (function "V" None []
    ∷ macro "M" None (row (function_is (plain "V") relations.Equal (sum (less (name (plain "Up")) ∷ []))) "T" ∷ [])
    ∷ []))
    Basic)
    ≡ shown 7 "M"
but_the_other_side_has_a_kind = refl

-- S8: tables

-- macro M { } state A;
a_table_has_a_row : broken_rule (spec (macro "M" None [] ∷ []) Basic) ≡ shown 8 "M"
a_table_has_a_row = refl

-- macro M { 1 = 1 | ; } state A;
a_row_has_a_cell : broken_rule (spec (macro "M" None (row (compare (num 1) relations.Equal (num 1)) "" ∷ []) ∷ []) Basic) ≡ shown 8 "M"
a_row_has_a_cell = refl

-- macro M { 1 = 1 | T T T T T T T T T T T T T T T T T T T T T T T T T T T T T T T T T ; } state A;
a_table_has_at_most_32_columns :
    broken_rule (spec (macro "M" None (row (compare (num 1) relations.Equal (num 1)) "TTTTTTTTTTTTTTTTTTTTTTTTTTTTTTTTT" ∷ []) ∷ []) Basic)
    ≡ shown 8 "M"
a_table_has_at_most_32_columns = refl

-- macro M { 1 = 1 | T T T T T T T T T T T T T T T T T T T T T T T T T T T T T T T T ; } state A;
a_table_may_have_32_columns :
    broken_rule (spec (macro "M" None (row (compare (num 1) relations.Equal (num 1)) "TTTTTTTTTTTTTTTTTTTTTTTTTTTTTTTT" ∷ []) ∷ []) Basic)
    ≡ None
a_table_may_have_32_columns = refl

-- function V { 1 when { }; } state A;
a_table_in_a_case_is_shown_by_the_function : broken_rule (spec (function "V" None (case (num 1) (table []) ∷ []) ∷ []) Basic) ≡ shown 8 "V"
a_table_in_a_case_is_shown_by_the_function = refl

-- S15: functions and sends

-- enumeration Switch { Down, Up } input Lever : Switch = Down; function V { 1 when always; Up when always; } state A;
the_cases_of_a_function_are_of_one_kind :
    broken_rule (spec (switched (function "V" None (case (num 1) always ∷ case (the "Up") always ∷ []) ∷ [])) Basic)
    ≡ shown 15 "V"
the_cases_of_a_function_are_of_one_kind = refl

-- constant K = 1; range R 0 .. 9; input X : R = 0; function V { X + 1 when always; } macro M { function V = K + 1 | T; } state A;
a_function_is_compared_with_a_constant_sum :
    broken_rule (spec
    (constant "K" (plus 1)
    ∷ unarrayed
    (function "V" None (case (sum (more (name (plain "X")) ∷ more (number 1) ∷ [])) always ∷ [])
    ∷ macro "M" None (row (function_is (plain "V") relations.Equal (sum (more (name (plain "K")) ∷ more (number 1) ∷ []))) "T" ∷ [])
    ∷ []))
    Basic)
    ≡ None
a_function_is_compared_with_a_constant_sum = refl

-- range R 0 .. 9; input X : R = 0; function V { 1 when always; } macro M { function V = X | T; } state A;
a_function_is_compared_with_no_input :
    broken_rule (spec (unarrayed
    (function "V" None (case (num 1) always ∷ []) ∷ macro "M" None (row (function_is (plain "V") relations.Equal (the "X")) "T" ∷ []) ∷ []))
    Basic)
    ≡ shown 15 "V"
a_function_is_compared_with_no_input = refl

-- range R 0 .. 9; input X : R = 0; function V { 1 when always; } macro M { function V = 1 + previous X | T; } state A;
a_function_is_compared_with_no_previous_input :
    broken_rule (spec (unarrayed
    (function "V" None (case (num 1) always ∷ [])
    ∷ macro "M" None (row (function_is (plain "V") relations.Equal (sum (more (number 1) ∷ more (previous (plain "X")) ∷ []))) "T" ∷ [])
    ∷ []))
    Basic)
    ≡ shown 15 "V"
a_function_is_compared_with_no_previous_input = refl

-- range R 0 .. 9; input X : R = 0; function V { 1 when always; } macro M { function V = X | T; } function G { } state A;
a_function_is_shown_where_it_is_compared :
    broken_rule (spec (unarrayed
    (function "V" None (case (num 1) always ∷ [])
    ∷ macro "M" None (row (function_is (plain "V") relations.Equal (the "X")) "T" ∷ [])
    ∷ function "G" None []
    ∷ []))
    Basic)
    ≡ shown 15 "V"
a_function_is_shown_where_it_is_compared = refl

-- range R 0 .. 9; input X : R = 0; function V { 1 when always; } function G { 1 when { function V = X | T; }; } function H { } state A;
its_declaration_is_shown_before_a_comparison_in_it :
    broken_rule (spec (unarrayed
    (function "V" None (case (num 1) always ∷ [])
    ∷ function "G" None (case (num 1) (table (row (function_is (plain "V") relations.Equal (the "X")) "T" ∷ [])) ∷ [])
    ∷ function "H" None []
    ∷ []))
    Basic)
    ≡ shown 15 "V"
its_declaration_is_shown_before_a_comparison_in_it = refl

-- event E; send S (V, G) { on E when always (1); } state A;
a_send_case_gives_a_value_for_each_field :
    broken_rule (spec (event "E" None ∷ send "S" None ("V" ∷ "G" ∷ []) (on (plain "E") always (answer (sent (num 1) ∷ [])) ∷ []) ∷ []) Basic)
    ≡ shown 15 "S"
a_send_case_gives_a_value_for_each_field = refl

-- event E; send S (V, G) { on E when always quiet; } state A;
a_quiet_case_gives_none :
    broken_rule (spec (event "E" None ∷ send "S" None ("V" ∷ "G" ∷ []) (on (plain "E") always quiet ∷ []) ∷ []) Basic)
    ≡ None
a_quiet_case_gives_none = refl

-- event E; send S () { on E when always (); } state A;
a_send_without_fields_gives_none :
    broken_rule (spec (event "E" None ∷ send "S" None [] (on (plain "E") always (answer []) ∷ []) ∷ []) Basic)
    ≡ None
a_send_without_fields_gives_none = refl

-- event E; send S () { on E when always (1); } state A;
a_send_without_fields_gives_no_value :
    broken_rule (spec (event "E" None ∷ send "S" None [] (on (plain "E") always (answer (sent (num 1) ∷ [])) ∷ []) ∷ []) Basic)
    ≡ shown 15 "S"
a_send_without_fields_gives_no_value = refl

-- S16: long sums

-- macro M { 1 + 1 + 1 + 1 - 1 + 1 + 1 + 1 = 9 | T; } state A;
a_sum_may_have_8_terms :
    broken_rule (spec
    (macro "M" None
    (row (compare (sum
    (more (number 1)
    ∷ more (number 1)
    ∷ more (number 1)
    ∷ more (number 1)
    ∷ less (number 1)
    ∷ more (number 1)
    ∷ more (number 1)
    ∷ more (number 1)
    ∷ []))
    relations.Equal
    (num 9))
    "T"
    ∷ [])
    ∷ [])
    Basic)
    ≡ None
a_sum_may_have_8_terms = refl

-- event E; state A one { default B; state B; stay B on E when { 9 = 1 + 1 + 1 + 1 + 1 + 1 + 1 + 1 + 1 | T; }; }
a_sum_on_the_other_side_has_at_most_8_terms :
    broken_rule (spec (event "E" None ∷ [])
    (one "B" (state "B" Basic ∷ []) [] (stay "B" (plain "E") (table (row (compare (num 9) relations.Equal (ones 9)) "T" ∷ [])) [] ∷ [])))
    ≡ shown 16 "B"
a_sum_on_the_other_side_has_at_most_8_terms = refl

-- event E; send S (V) { on E when always (1 + 1 + 1 + 1 + 1 + 1 + 1 + 1 + 1); } state A;
a_sent_sum_has_at_most_8_terms :
    broken_rule (spec (event "E" None ∷ send "S" None ("V" ∷ []) (on (plain "E") always (answer (sent (ones 9) ∷ [])) ∷ []) ∷ []) Basic)
    ≡ shown 16 "S"
a_sent_sum_has_at_most_8_terms = refl
