-- The rules on names and sizes, in examples: which rule is broken at which name, and what is kept.
use Rattle.std.specs.Prelude.{◌≡◌, [], ◌∷◌, Some, None, refl}
use Rattle.rsml_syntax.specs.declared.syntax.Relation.TheVariants as relations
use Rattle.rsml_syntax.specs.declared.syntax.Body.{Basic}
use Rattle.rsml_syntax.specs.rules.Rules.{broken_rule}
use Rattle.rsml_syntax.proofs.Examples.Writing.{up_to, up_to_constant, plus, minus, plain, by, name, previous, single, holds, compare, function_is, row, some, every, always, table, enumeration, range, constant, from, from_name, input, event, macro, case, function, receive, sent, quiet, answer, on, send, state, array, all, one, bus, stay, spec, shown, the, num, arrayed, unarrayed, switched}

-- S1: names are declared once

-- enumeration Switch { Down, Down } state A;
a_value_is_a_global_name : broken_rule (spec (enumeration "Switch" ("Down" ∷ "Down" ∷ []) ∷ []) Basic) ≡ shown 1 "Down"
a_value_is_a_global_name = refl

-- enumeration Switch { Switch } state A;
a_value_may_not_be_its_enumeration : broken_rule (spec (enumeration "Switch" ("Switch" ∷ []) ∷ []) Basic) ≡ shown 1 "Switch"
a_value_may_not_be_its_enumeration = refl

-- event A; state A;
the_specification_and_the_top_state_are_in_no_space : broken_rule (spec (event "A" None ∷ []) Basic) ≡ None
the_specification_and_the_top_state_are_in_no_space = refl

-- event k; range R 0 .. 9; input X [2] : R = 0; macro M { some k of 2 : X[k] = 0 | T; } event k2; event k2; state A;
a_variable_is_no_earlier_name :
    broken_rule (spec
    (event "k" None
    ∷ arrayed
    (macro "M" None (some "k" (up_to 2) (compare (single (name (by "X" "k"))) relations.Equal (num 0)) "T" ∷ [])
    ∷ event "k2" None
    ∷ event "k2" None
    ∷ []))
    Basic)
    ≡ shown 1 "k"
a_variable_is_no_earlier_name = refl

-- range R 0 .. 9; input X [2] : R = 0; macro M { some k of 2 : X[k] = 0 | T; } event E; event E; event k; state A;
of_a_variable_and_a_later_name_the_name_is_shown :
    broken_rule (spec (arrayed
    (macro "M" None (some "k" (up_to 2) (compare (single (name (by "X" "k"))) relations.Equal (num 0)) "T" ∷ [])
    ∷ event "E" None
    ∷ event "E" None
    ∷ event "k" None
    ∷ []))
    Basic)
    ≡ shown 1 "E"
of_a_variable_and_a_later_name_the_name_is_shown = refl

-- range R 0 .. 9; input X [2] : R = 0; macro M { some k of 2 : X[k] = 0 | T; } event k; state A;
a_later_name_is_shown_though_nothing_else_is_broken :
    broken_rule (spec (arrayed
    (macro "M" None (some "k" (up_to 2) (compare (single (name (by "X" "k"))) relations.Equal (num 0)) "T" ∷ []) ∷ event "k" None ∷ []))
    Basic)
    ≡ shown 1 "k"
a_later_name_is_shown_though_nothing_else_is_broken = refl

-- range R 0 .. 9; input X [2] : R = 0; macro k { some k of 2 : X[k] = 0 | T; } state A;
a_variable_is_not_the_name_of_its_own_declaration :
    broken_rule (spec (arrayed (macro "k" None (some "k" (up_to 2) (compare (single (name (by "X" "k"))) relations.Equal (num 0)) "T" ∷ []) ∷ [])) Basic)
    ≡ shown 1 "k"
a_variable_is_not_the_name_of_its_own_declaration = refl

-- event E; range R 0 .. 9; input X [2] : R = 0; state A one { default B; state B; stay B on E when { every X of 2 : 1 = 1 | T; }; }
in_a_state_each_declared_name_is_earlier :
    broken_rule (spec (event "E" None ∷ arrayed []) (one "B" (state "B" Basic ∷ []) []
    (stay "B" (plain "E") (table (every "X" (up_to 2) (compare (num 1) relations.Equal (num 1)) "T" ∷ [])) [] ∷ [])))
    ≡ shown 1 "X"
in_a_state_each_declared_name_is_earlier = refl

-- range R 0 .. 9; input X [2] : R = 0; macro M { some k of 2 : X[k] = 0 | T; every k of 2 : X[k] = 0 | T; } state A;
two_quantifiers_may_have_one_variable :
    broken_rule (spec (arrayed
    (macro "M" None
    (some "k" (up_to 2) (compare (single (name (by "X" "k"))) relations.Equal (num 0)) "T"
    ∷ every "k" (up_to 2) (compare (single (name (by "X" "k"))) relations.Equal (num 0)) "T"
    ∷ [])
    ∷ []))
    Basic)
    ≡ None
two_quantifiers_may_have_one_variable = refl

-- event E; send S (V, G, V) { on E when always quiet; } state A;
a_field_is_repeated :
    broken_rule (spec (event "E" None ∷ send "S" None ("V" ∷ "G" ∷ "V" ∷ []) (on (plain "E") always quiet ∷ []) ∷ []) Basic)
    ≡ shown 1 "V"
a_field_is_repeated = refl

-- event E; send S (E) { on E when always (1); } state A;
a_field_may_have_a_global_name :
    broken_rule (spec (event "E" None ∷ send "S" None ("E" ∷ []) (on (plain "E") always (answer (sent (num 1) ∷ [])) ∷ []) ∷ []) Basic)
    ≡ None
a_field_may_have_a_global_name = refl

-- state A all { state B; array B [2]; }
a_child_is_repeated : broken_rule (spec [] (all (state "B" Basic ∷ array "B" (up_to 2) Basic ∷ []))) ≡ shown 1 "B"
a_child_is_repeated = refl

-- state A one { default B; state B; bus B { B } }
a_bus_is_named_as_a_child : broken_rule (spec [] (one "B" (state "B" Basic ∷ []) (bus "B" ("B" ∷ []) ∷ []) [])) ≡ shown 1 "B"
a_bus_is_named_as_a_child = refl

-- state A one { default B; state B; bus C { B } bus C { B } }
a_bus_is_repeated : broken_rule (spec [] (one "B" (state "B" Basic ∷ []) (bus "C" ("B" ∷ []) ∷ bus "C" ("B" ∷ []) ∷ []) [])) ≡ shown 1 "C"
a_bus_is_repeated = refl

-- event B; state A all { state B all { state B; state A; } state C all { state B; } }
names_of_states_are_local_to_their_parent :
    broken_rule (spec (event "B" None ∷ [])
    (all (state "B" (all (state "B" Basic ∷ state "A" Basic ∷ [])) ∷ state "C" (all (state "B" Basic ∷ [])) ∷ [])))
    ≡ None
names_of_states_are_local_to_their_parent = refl

-- S2: used names are declared, macros and functions before

-- receive Q (X) raise E; event E; range R 0 .. 9; input X : R = 0; state A;
events_and_inputs_may_be_declared_later :
    broken_rule (spec (receive "Q" None (plain "X" ∷ []) (plain "E") ∷ event "E" None ∷ unarrayed []) Basic)
    ≡ None
events_and_inputs_may_be_declared_later = refl

-- macro M { macro M | T; } state A;
a_macro_may_not_name_itself : broken_rule (spec (macro "M" None (row (holds (plain "M")) "T" ∷ []) ∷ []) Basic) ≡ shown 2 "M"
a_macro_may_not_name_itself = refl

-- macro M { macro L | T; } macro L { 1 = 1 | T; } state A;
a_macro_may_not_name_a_later_one :
    broken_rule (spec (macro "M" None (row (holds (plain "L")) "T" ∷ []) ∷ macro "L" None (row (compare (num 1) relations.Equal (num 1)) "T" ∷ []) ∷ [])
    Basic)
    ≡ shown 2 "L"
a_macro_may_not_name_a_later_one = refl

-- macro L { 1 = 1 | T; } macro M { macro L | T; } state A;
a_macro_may_name_an_earlier_one :
    broken_rule (spec (macro "L" None (row (compare (num 1) relations.Equal (num 1)) "T" ∷ []) ∷ macro "M" None (row (holds (plain "L")) "T" ∷ []) ∷ [])
    Basic)
    ≡ None
a_macro_may_name_an_earlier_one = refl

-- event E; macro L { 1 = 1 | T; } state A one { default B; state B; stay B on E when { macro L | T; }; }
a_state_may_name_each_macro :
    broken_rule (spec (event "E" None ∷ macro "L" None (row (compare (num 1) relations.Equal (num 1)) "T" ∷ []) ∷ [])
    (one "B" (state "B" Basic ∷ []) [] (stay "B" (plain "E") (table (row (holds (plain "L")) "T" ∷ [])) [] ∷ [])))
    ≡ None
a_state_may_name_each_macro = refl

-- receive Q () raise M; macro M { 1 = 1 | T; } state A;
a_later_macro_in_the_place_of_an_event_is_not_declared :
    broken_rule (spec (receive "Q" None [] (plain "M") ∷ macro "M" None (row (compare (num 1) relations.Equal (num 1)) "T" ∷ []) ∷ []) Basic)
    ≡ shown 2 "M"
a_later_macro_in_the_place_of_an_event_is_not_declared = refl

-- macro M { 1 = 1 | T; } receive Q () raise M; state A;
an_earlier_macro_in_the_place_of_an_event_is_no_event :
    broken_rule (spec (macro "M" None (row (compare (num 1) relations.Equal (num 1)) "T" ∷ []) ∷ receive "Q" None [] (plain "M") ∷ []) Basic)
    ≡ shown 3 "M"
an_earlier_macro_in_the_place_of_an_event_is_no_event = refl

-- macro M { V = 1 | T; } function V { 1 when always; } state A;
a_later_function_in_a_sum_is_not_declared :
    broken_rule (spec (macro "M" None (row (compare (the "V") relations.Equal (num 1)) "T" ∷ []) ∷ function "V" None (case (num 1) always ∷ []) ∷ [])
    Basic)
    ≡ shown 2 "V"
a_later_function_in_a_sum_is_not_declared = refl

-- macro M { macro E | T; } event E; state A;
a_later_event_in_the_place_of_a_macro_is_no_macro :
    broken_rule (spec (macro "M" None (row (holds (plain "E")) "T" ∷ []) ∷ event "E" None ∷ []) Basic)
    ≡ shown 3 "E"
a_later_event_in_the_place_of_a_macro_is_no_macro = refl

-- event E [K]; state A;
a_size_names_a_constant_that_is_declared : broken_rule (spec (event "E" (Some (up_to_constant "K")) ∷ []) Basic) ≡ shown 2 "K"
a_size_names_a_constant_that_is_declared = refl

-- macro M { some k of K : 1 = 1 | T; } state A;
a_bound_names_a_constant_that_is_declared :
    broken_rule (spec (macro "M" None (some "k" (up_to_constant "K") (compare (num 1) relations.Equal (num 1)) "T" ∷ []) ∷ []) Basic)
    ≡ shown 2 "K"
a_bound_names_a_constant_that_is_declared = refl

-- range R 0 .. 9; input X : R = K; state A;
an_initial_name_is_declared : broken_rule (spec (range "R" (plus 0) (plus 9) ∷ input "X" None "R" (from_name "K") ∷ []) Basic) ≡ shown 2 "K"
an_initial_name_is_declared = refl

-- event E; input X : E = 0; receive Q () raise G; state A;
a_late_S2_is_shown_before_an_early_S3 :
    broken_rule (spec (event "E" None ∷ input "X" None "E" (from (plus 0)) ∷ receive "Q" None [] (plain "G") ∷ []) Basic)
    ≡ shown 2 "G"
a_late_S2_is_shown_before_an_early_S3 = refl

-- S3: used names are of the right sort

-- event E [E]; state A;
a_size_is_no_event : broken_rule (spec (event "E" (Some (up_to_constant "E")) ∷ []) Basic) ≡ shown 3 "E"
a_size_is_no_event = refl

-- range R 0 .. 9; input X : R = 0; macro M { some k of X : 1 = 1 | T; } state A;
a_bound_is_no_input :
    broken_rule
    (spec (unarrayed (macro "M" None (some "k" (up_to_constant "X") (compare (num 1) relations.Equal (num 1)) "T" ∷ []) ∷ [])) Basic)
    ≡ shown 3 "X"
a_bound_is_no_input = refl

-- enumeration Switch { Down, Up } input Lever : Switch = Down; input X : Up = Up; state A;
an_input_is_not_of_a_value : broken_rule (spec (switched (input "X" None "Up" (from_name "Up") ∷ [])) Basic) ≡ shown 3 "Up"
an_input_is_not_of_a_value = refl

-- range R 0 .. 9; input X : R = R; state A;
an_initial_name_is_no_range : broken_rule (spec (range "R" (plus 0) (plus 9) ∷ input "X" None "R" (from_name "R") ∷ []) Basic) ≡ shown 3 "R"
an_initial_name_is_no_range = refl

-- constant K = 1; event E; receive Q (K) raise E; state A;
a_receive_lists_no_constant :
    broken_rule (spec (constant "K" (plus 1) ∷ event "E" None ∷ receive "Q" None (plain "K" ∷ []) (plain "E") ∷ []) Basic)
    ≡ shown 3 "K"
a_receive_lists_no_constant = refl

-- enumeration Switch { Down, Up } input Lever : Switch = Down; receive Q () raise Up; state A;
a_value_is_no_event : broken_rule (spec (switched (receive "Q" None [] (plain "Up") ∷ [])) Basic) ≡ shown 3 "Up"
a_value_is_no_event = refl

-- enumeration Switch { Down, Up } input Lever : Switch = Down; macro M { Lever = Switch | T; } state A;
an_enumeration_is_no_operand :
    broken_rule (spec (switched (macro "M" None (row (compare (the "Lever") relations.Equal (the "Switch")) "T" ∷ []) ∷ [])) Basic)
    ≡ shown 3 "Switch"
an_enumeration_is_no_operand = refl

-- macro L { 1 = 1 | T; } macro M { L = 1 | T; } state A;
a_macro_is_no_operand :
    broken_rule (spec
    (macro "L" None (row (compare (num 1) relations.Equal (num 1)) "T" ∷ [])
    ∷ macro "M" None (row (compare (the "L") relations.Equal (num 1)) "T" ∷ [])
    ∷ [])
    Basic)
    ≡ shown 3 "L"
a_macro_is_no_operand = refl

-- constant K = 1; macro M { previous K = 1 | T; } state A;
after_previous_stands_an_input :
    broken_rule (spec (constant "K" (plus 1) ∷ macro "M" None (row (compare (single (previous (plain "K"))) relations.Equal (num 1)) "T" ∷ []) ∷ [])
    Basic)
    ≡ shown 3 "K"
after_previous_stands_an_input = refl

-- function V { 1 when always; } macro M { macro V | T; } state A;
after_macro_stands_no_function :
    broken_rule (spec (function "V" None (case (num 1) always ∷ []) ∷ macro "M" None (row (holds (plain "V")) "T" ∷ []) ∷ []) Basic)
    ≡ shown 3 "V"
after_macro_stands_no_function = refl

-- macro L { 1 = 1 | T; } macro M { function L = 1 | T; } state A;
after_function_stands_no_macro :
    broken_rule (spec
    (macro "L" None (row (compare (num 1) relations.Equal (num 1)) "T" ∷ [])
    ∷ macro "M" None (row (function_is (plain "L") relations.Equal (num 1)) "T" ∷ [])
    ∷ [])
    Basic)
    ≡ shown 3 "L"
after_function_stands_no_macro = refl

-- range R 0 .. 9; input X : R = 0; state A one { default B; state B; stay B on X when always; }
a_trigger_is_no_input :
    broken_rule (spec (unarrayed []) (one "B" (state "B" Basic ∷ []) [] (stay "B" (plain "X") always [] ∷ [])))
    ≡ shown 3 "X"
a_trigger_is_no_input = refl

-- event E; enumeration Switch { Down, Up } input Lever : Switch = Down; state A one { default B; state B; stay B on Up when { E =
-- 1 | T; } raise Down; }
of_two_the_first_name_is_shown :
    broken_rule (spec (event "E" None ∷ switched []) (one "B" (state "B" Basic ∷ []) []
    (stay "B" (plain "Up") (table (row (compare (the "E") relations.Equal (num 1)) "T" ∷ [])) (plain "Down" ∷ []) ∷ [])))
    ≡ shown 3 "Up"
of_two_the_first_name_is_shown = refl

-- S4 and S5: ranges, sizes and bounds

-- range R 1 .. 1; state A;
a_range_may_have_one_number : broken_rule (spec (range "R" (plus 1) (plus 1) ∷ []) Basic) ≡ None
a_range_may_have_one_number = refl

-- range R 0 .. -0; state A;
minus_0_is_0 : broken_rule (spec (range "R" (plus 0) (minus 0) ∷ []) Basic) ≡ None
minus_0_is_0 = refl

-- range R -1 .. -2; state A;
a_range_from_minus_1_falls_to_minus_2 : broken_rule (spec (range "R" (minus 1) (minus 2) ∷ []) Basic) ≡ shown 4 "R"
a_range_from_minus_1_falls_to_minus_2 = refl

-- constant K = 64; event E [K]; event G [1]; state A;
a_size_may_be_64 :
    broken_rule (spec (constant "K" (plus 64) ∷ event "E" (Some (up_to_constant "K")) ∷ event "G" (Some (up_to 1)) ∷ []) Basic)
    ≡ None
a_size_may_be_64 = refl

-- event E [0]; state A;
a_size_is_not_0 : broken_rule (spec (event "E" (Some (up_to 0)) ∷ []) Basic) ≡ shown 5 "E"
a_size_is_not_0 = refl

-- constant K = 0; event E [K]; state A;
a_constant_size_is_not_0 : broken_rule (spec (constant "K" (plus 0) ∷ event "E" (Some (up_to_constant "K")) ∷ []) Basic) ≡ shown 5 "E"
a_constant_size_is_not_0 = refl

-- constant K = -1; event E [K]; state A;
a_constant_size_is_not_negative : broken_rule (spec (constant "K" (minus 1) ∷ event "E" (Some (up_to_constant "K")) ∷ []) Basic) ≡ shown 5 "E"
a_constant_size_is_not_negative = refl

-- constant K = 65; state A all { array B [K]; }
a_constant_size_is_not_65 : broken_rule (spec (constant "K" (plus 65) ∷ []) (all (array "B" (up_to_constant "K") Basic ∷ []))) ≡ shown 5 "B"
a_constant_size_is_not_65 = refl

-- constant K = -2; macro M { some k of K : 1 = 1 | T; } state A;
a_bound_is_shown_by_its_variable :
    broken_rule (spec (constant "K" (minus 2) ∷ macro "M" None (some "k" (up_to_constant "K") (compare (num 1) relations.Equal (num 1)) "T" ∷ []) ∷ [])
    Basic)
    ≡ shown 5 "k"
a_bound_is_shown_by_its_variable = refl

-- macro M [65] { some k of 0 : 1 = 1 | T; } state A;
the_sized_name_stands_before_the_variable :
    broken_rule (spec (macro "M" (Some (up_to 65)) (some "k" (up_to 0) (compare (num 1) relations.Equal (num 1)) "T" ∷ []) ∷ []) Basic)
    ≡ shown 5 "M"
the_sized_name_stands_before_the_variable = refl
