-- The rules on indices and paths, in examples: which rule is broken at which name, and what is kept.
use Rattle.std.specs.Prelude.{◌≡◌, [], ◌∷◌, Some, None, refl}
use Rattle.rsml_syntax.specs.declared.syntax.Relation.TheVariants as relations
use Rattle.rsml_syntax.specs.declared.syntax.Body.{Basic}
use Rattle.rsml_syntax.specs.rules.Rules.{broken_rule}
use Rattle.rsml_syntax.proofs.Examples.Writing.{up_to, plus, minus, plain, at, by, this, name, previous, single, in_state, holds, compare, row, some, always, table, enumeration, constant, from, input, event, macro, case, function, receive, sent, answer, on, send, state, array, all, one, bus, stay, spec, shown, the, num, arrayed, unarrayed}

-- S6: indices at mentions

-- range R 0 .. 9; input X [2] : R = 0; macro M { X = 1 | T; } state A;
an_arrayed_input_has_an_index :
    broken_rule (spec (arrayed (macro "M" None (row (compare (the "X") relations.Equal (num 1)) "T" ∷ []) ∷ [])) Basic)
    ≡ shown 6 "X"
an_arrayed_input_has_an_index = refl

-- range R 0 .. 9; input X : R = 0; macro M { X[1] = 1 | T; } state A;
an_input_that_is_not_arrayed_has_none :
    broken_rule (spec (unarrayed (macro "M" None (row (compare (single (name (at "X" 1))) relations.Equal (num 1)) "T" ∷ []) ∷ [])) Basic)
    ≡ shown 6 "X"
an_input_that_is_not_arrayed_has_none = refl

-- constant K = 1; macro M { K[1] = 1 | T; } state A;
a_constant_has_no_index :
    broken_rule
    (spec (constant "K" (plus 1) ∷ macro "M" None (row (compare (single (name (at "K" 1))) relations.Equal (num 1)) "T" ∷ []) ∷ []) Basic)
    ≡ shown 6 "K"
a_constant_has_no_index = refl

-- macro L [2] { 1 = 1 | T; } macro M { macro L | T; } state A;
a_macro_has_an_index_where_it_is_arrayed :
    broken_rule (spec
    (macro "L" (Some (up_to 2)) (row (compare (num 1) relations.Equal (num 1)) "T" ∷ [])
    ∷ macro "M" None (row (holds (plain "L")) "T" ∷ [])
    ∷ [])
    Basic)
    ≡ shown 6 "L"
a_macro_has_an_index_where_it_is_arrayed = refl

-- range R 0 .. 9; input X [2] : R = 0; macro M { previous X = 1 | T; } state A;
an_input_after_previous_has_an_index_too :
    broken_rule (spec (arrayed (macro "M" None (row (compare (single (previous (plain "X"))) relations.Equal (num 1)) "T" ∷ []) ∷ [])) Basic)
    ≡ shown 6 "X"
an_input_after_previous_has_an_index_too = refl

-- range R 0 .. 9; input X [2] : R = 0; macro M { X[1] = X[2] | T; } state A;
an_index_is_1_to_the_size :
    broken_rule (spec (arrayed (macro "M" None (row (compare (single (name (at "X" 1))) relations.Equal (single (name (at "X" 2)))) "T" ∷ []) ∷ []))
    Basic)
    ≡ None
an_index_is_1_to_the_size = refl

-- range R 0 .. 9; input X [2] : R = 0; macro M { X[0] = 1 | T; } state A;
an_index_is_not_0 :
    broken_rule (spec (arrayed (macro "M" None (row (compare (single (name (at "X" 0))) relations.Equal (num 1)) "T" ∷ []) ∷ [])) Basic)
    ≡ shown 6 "X"
an_index_is_not_0 = refl

-- range R 0 .. 9; input X [2] : R = 0; macro M { X[3] = 1 | T; } state A;
an_index_is_at_most_the_size :
    broken_rule (spec (arrayed (macro "M" None (row (compare (single (name (at "X" 3))) relations.Equal (num 1)) "T" ∷ []) ∷ [])) Basic)
    ≡ shown 6 "X"
an_index_is_at_most_the_size = refl

-- constant K = 2; range R 0 .. 9; input X [2] : R = 0; macro M { X[K] = 1 | T; } state A;
a_constant_is_an_index :
    broken_rule (spec
    (constant "K" (plus 2) ∷ arrayed (macro "M" None (row (compare (single (name (by "X" "K"))) relations.Equal (num 1)) "T" ∷ []) ∷ []))
    Basic)
    ≡ None
a_constant_is_an_index = refl

-- constant K = 0; range R 0 .. 9; input X [2] : R = 0; macro M { X[K] = 1 | T; } state A;
a_constant_of_0_is_no_index :
    broken_rule (spec
    (constant "K" (plus 0) ∷ arrayed (macro "M" None (row (compare (single (name (by "X" "K"))) relations.Equal (num 1)) "T" ∷ []) ∷ []))
    Basic)
    ≡ shown 6 "X"
a_constant_of_0_is_no_index = refl

-- constant K = -1; range R 0 .. 9; input X [2] : R = 0; macro M { X[K] = 1 | T; } state A;
a_negative_constant_is_no_index :
    broken_rule (spec
    (constant "K" (minus 1) ∷ arrayed (macro "M" None (row (compare (single (name (by "X" "K"))) relations.Equal (num 1)) "T" ∷ []) ∷ []))
    Basic)
    ≡ shown 6 "X"
a_negative_constant_is_no_index = refl

-- constant K = 3; range R 0 .. 9; input X [2] : R = 0; macro M { X[K] = 1 | T; } state A;
a_constant_above_the_size_is_no_index :
    broken_rule (spec
    (constant "K" (plus 3) ∷ arrayed (macro "M" None (row (compare (single (name (by "X" "K"))) relations.Equal (num 1)) "T" ∷ []) ∷ []))
    Basic)
    ≡ shown 6 "X"
a_constant_above_the_size_is_no_index = refl

-- range R 0 .. 9; input X [2] : R = 0; macro M { X[k] = 1 | T; } state A;
an_unknown_name_is_no_index :
    broken_rule (spec (arrayed (macro "M" None (row (compare (single (name (by "X" "k"))) relations.Equal (num 1)) "T" ∷ []) ∷ [])) Basic)
    ≡ shown 6 "X"
an_unknown_name_is_no_index = refl

-- range R 0 .. 9; input X [2] : R = 0; input Y : R = 1; macro M { X[Y] = 1 | T; } state A;
an_input_is_no_index :
    broken_rule (spec (arrayed
    (input "Y" None "R" (from (plus 1)) ∷ macro "M" None (row (compare (single (name (by "X" "Y"))) relations.Equal (num 1)) "T" ∷ []) ∷ []))
    Basic)
    ≡ shown 6 "X"
an_input_is_no_index = refl

-- range R 0 .. 9; input X [2] : R = 0; enumeration Switch { Down, Up } macro M { X[Up] = 1 | T; } state A;
a_value_is_no_index :
    broken_rule (spec (arrayed
    (enumeration "Switch" ("Down" ∷ "Up" ∷ [])
    ∷ macro "M" None (row (compare (single (name (by "X" "Up"))) relations.Equal (num 1)) "T" ∷ [])
    ∷ []))
    Basic)
    ≡ shown 6 "X"
a_value_is_no_index = refl

-- range R 0 .. 9; input X [2] : R = 0; macro M { some k of 2 : X[k] = 1 | T; } state A;
a_variable_is_an_index :
    broken_rule (spec (arrayed (macro "M" None (some "k" (up_to 2) (compare (single (name (by "X" "k"))) relations.Equal (num 1)) "T" ∷ []) ∷ [])) Basic)
    ≡ None
a_variable_is_an_index = refl

-- range R 0 .. 9; input X [2] : R = 0; macro M { some k of 1 : X[k] = 1 | T; } state A;
a_variable_with_a_lower_bound_is_an_index :
    broken_rule (spec (arrayed (macro "M" None (some "k" (up_to 1) (compare (single (name (by "X" "k"))) relations.Equal (num 1)) "T" ∷ []) ∷ [])) Basic)
    ≡ None
a_variable_with_a_lower_bound_is_an_index = refl

-- range R 0 .. 9; input X [2] : R = 0; macro M { some k of 3 : X[k] = 1 | T; } state A;
a_variable_with_a_higher_bound_is_no_index :
    broken_rule (spec (arrayed (macro "M" None (some "k" (up_to 3) (compare (single (name (by "X" "k"))) relations.Equal (num 1)) "T" ∷ []) ∷ [])) Basic)
    ≡ shown 6 "X"
a_variable_with_a_higher_bound_is_no_index = refl

-- range R 0 .. 9; input X [2] : R = 0; macro M { some k of 2 : X[k] = 1 | T; X[k] = 1 | T; } state A;
a_variable_is_unknown_in_the_next_row :
    broken_rule (spec (arrayed
    (macro "M" None
    (some "k" (up_to 2) (compare (single (name (by "X" "k"))) relations.Equal (num 1)) "T"
    ∷ row (compare (single (name (by "X" "k"))) relations.Equal (num 1)) "T"
    ∷ [])
    ∷ []))
    Basic)
    ≡ shown 6 "X"
a_variable_is_unknown_in_the_next_row = refl

-- S6: this

-- range R 0 .. 9; input X [2] : R = 0; macro M [2] { X[this] = 1 | T; } state A;
this_is_an_index_in_a_macro_of_that_size :
    broken_rule
    (spec (arrayed (macro "M" (Some (up_to 2)) (row (compare (single (name (this "X"))) relations.Equal (num 1)) "T" ∷ []) ∷ [])) Basic)
    ≡ None
this_is_an_index_in_a_macro_of_that_size = refl

-- range R 0 .. 9; input X [2] : R = 0; function V [1] { X[this] when always; } state A;
this_is_an_index_in_a_smaller_function :
    broken_rule (spec (arrayed (function "V" (Some (up_to 1)) (case (single (name (this "X"))) always ∷ []) ∷ [])) Basic)
    ≡ None
this_is_an_index_in_a_smaller_function = refl

-- range R 0 .. 9; input X [2] : R = 0; macro M [3] { X[this] = 1 | T; } state A;
this_is_no_index_in_a_bigger_macro :
    broken_rule
    (spec (arrayed (macro "M" (Some (up_to 3)) (row (compare (single (name (this "X"))) relations.Equal (num 1)) "T" ∷ []) ∷ [])) Basic)
    ≡ shown 6 "X"
this_is_no_index_in_a_bigger_macro = refl

-- range R 0 .. 9; input X [2] : R = 0; macro M { X[this] = 1 | T; } state A;
this_is_no_index_in_a_macro_without_a_size :
    broken_rule (spec (arrayed (macro "M" None (row (compare (single (name (this "X"))) relations.Equal (num 1)) "T" ∷ []) ∷ [])) Basic)
    ≡ shown 6 "X"
this_is_no_index_in_a_macro_without_a_size = refl

-- range R 0 .. 9; input X [2] : R = 0; event E [3]; receive Q [2] (X[this]) raise E[this]; state A;
this_is_an_index_in_a_receive :
    broken_rule (spec (arrayed (event "E" (Some (up_to 3)) ∷ receive "Q" (Some (up_to 2)) (this "X" ∷ []) (this "E") ∷ [])) Basic)
    ≡ None
this_is_an_index_in_a_receive = refl

-- event E [2]; range R 0 .. 9; input X [2] : R = 0; send S [2] (V) { on E[this] when { X[this] = 1 | T; } (X[this]); } state A;
this_is_an_index_in_a_send :
    broken_rule (spec
    (event "E" (Some (up_to 2))
    ∷ arrayed
    (send "S" (Some (up_to 2)) ("V" ∷ [])
    (on (this "E") (table (row (compare (single (name (this "X"))) relations.Equal (num 1)) "T" ∷ []))
    (answer (sent (single (name (this "X"))) ∷ []))
    ∷ [])
    ∷ []))
    Basic)
    ≡ None
this_is_an_index_in_a_send = refl

-- event E [2]; state A all { array B [2] one { default C; state C; stay C on E[this] when always raise E[this]; } }
this_is_an_index_in_an_array_state :
    broken_rule (spec (event "E" (Some (up_to 2)) ∷ [])
    (all (array "B" (up_to 2) (one "C" (state "C" Basic ∷ []) [] (stay "C" (this "E") always (this "E" ∷ []) ∷ [])) ∷ [])))
    ≡ None
this_is_an_index_in_an_array_state = refl

-- event E [2]; state A all { array B [2] all { state D one { default C; state C; stay C on E[this] when always; } } }
this_is_an_index_in_a_state_inside_an_array :
    broken_rule (spec (event "E" (Some (up_to 2)) ∷ [])
    (all (array "B" (up_to 2) (all (state "D" (one "C" (state "C" Basic ∷ []) [] (stay "C" (this "E") always [] ∷ [])) ∷ [])) ∷ [])))
    ≡ None
this_is_an_index_in_a_state_inside_an_array = refl

-- event E [2]; state A all { array B [3] one { default C; state C; stay C on E[this] when always; } }
this_is_no_index_in_a_bigger_array_state :
    broken_rule (spec (event "E" (Some (up_to 2)) ∷ [])
    (all (array "B" (up_to 3) (one "C" (state "C" Basic ∷ []) [] (stay "C" (this "E") always [] ∷ [])) ∷ [])))
    ≡ shown 6 "E"
this_is_no_index_in_a_bigger_array_state = refl

-- event E [2]; state A all { array B [2]; state D one { default C; state C; stay C on E[this] when always; } }
this_is_no_index_beside_an_array_state :
    broken_rule (spec (event "E" (Some (up_to 2)) ∷ [])
    (all (array "B" (up_to 2) Basic ∷ state "D" (one "C" (state "C" Basic ∷ []) [] (stay "C" (this "E") always [] ∷ [])) ∷ [])))
    ≡ shown 6 "E"
this_is_no_index_beside_an_array_state = refl

-- event E [2]; state A all { array D [3] all { array B [2] one { default C; state C; stay C on E[this] when always; } } }
of_two_arrays_the_inner_one_counts :
    broken_rule (spec (event "E" (Some (up_to 2)) ∷ []) (all (array "D" (up_to 3) (all (array "B" (up_to 2) (one "C" (state "C" Basic ∷ []) [] (stay "C" (this "E") always [] ∷ [])) ∷ [])) ∷ [])))
    ≡ shown 13 "B"
of_two_arrays_the_inner_one_counts = refl

-- S6 and S9: paths

-- macro M { in A | T; } state A;
the_path_of_the_top_state_names_it : broken_rule (spec (macro "M" None (row (in_state (plain "A" ∷ [])) "T" ∷ []) ∷ []) Basic) ≡ None
the_path_of_the_top_state_names_it = refl

-- macro M { in A.B | T; } state A all { array B [2]; }
an_array_in_a_path_has_an_index :
    broken_rule (spec (macro "M" None (row (in_state (plain "A" ∷ plain "B" ∷ [])) "T" ∷ []) ∷ []) (all (array "B" (up_to 2) Basic ∷ [])))
    ≡ shown 6 "B"
an_array_in_a_path_has_an_index = refl

-- macro M { in A.B[1] | T; } state A all { state B; }
a_state_in_a_path_has_none :
    broken_rule (spec (macro "M" None (row (in_state (plain "A" ∷ at "B" 1 ∷ [])) "T" ∷ []) ∷ []) (all (state "B" Basic ∷ [])))
    ≡ shown 6 "B"
a_state_in_a_path_has_none = refl

-- macro M { in A.B[3].C | T; } state A all { array B [2] all { state C; } }
a_step_is_judged_by_the_size_of_its_array :
    broken_rule (spec (macro "M" None (row (in_state (plain "A" ∷ at "B" 3 ∷ plain "C" ∷ [])) "T" ∷ []) ∷ [])
    (all (array "B" (up_to 2) (all (state "C" Basic ∷ [])) ∷ [])))
    ≡ shown 6 "B"
a_step_is_judged_by_the_size_of_its_array = refl

-- macro M { some k of 2 : in A.B[k].C | T; } state A all { array B [2] all { state C; } }
a_variable_is_an_index_in_a_path :
    broken_rule (spec (macro "M" None (some "k" (up_to 2) (in_state (plain "A" ∷ by "B" "k" ∷ plain "C" ∷ [])) "T" ∷ []) ∷ [])
    (all (array "B" (up_to 2) (all (state "C" Basic ∷ [])) ∷ [])))
    ≡ None
a_variable_is_an_index_in_a_path = refl

-- macro M [2] { in A.B[this].C | T; } state A all { array B [2] all { state C; } }
this_is_an_index_in_a_path :
    broken_rule (spec (macro "M" (Some (up_to 2)) (row (in_state (plain "A" ∷ this "B" ∷ plain "C" ∷ [])) "T" ∷ []) ∷ [])
    (all (array "B" (up_to 2) (all (state "C" Basic ∷ [])) ∷ [])))
    ≡ None
this_is_an_index_in_a_path = refl

-- macro M { in A[1] | T; } state A;
the_top_state_has_no_index : broken_rule (spec (macro "M" None (row (in_state (at "A" 1 ∷ [])) "T" ∷ []) ∷ []) Basic) ≡ shown 9 "A"
the_top_state_has_no_index = refl

-- macro M { in A[1].B | T; } state A all { state B; }
an_index_at_the_top_state_is_left_to_S9 :
    broken_rule (spec (macro "M" None (row (in_state (at "A" 1 ∷ plain "B" ∷ [])) "T" ∷ []) ∷ []) (all (state "B" Basic ∷ [])))
    ≡ shown 9 "B"
an_index_at_the_top_state_is_left_to_S9 = refl

-- macro M { in A[1].B[1] | T; } state A all { state B; }
the_steps_after_it_are_judged :
    broken_rule (spec (macro "M" None (row (in_state (at "A" 1 ∷ at "B" 1 ∷ [])) "T" ∷ []) ∷ []) (all (state "B" Basic ∷ [])))
    ≡ shown 6 "B"
the_steps_after_it_are_judged = refl

-- macro M { in C.B[7] | T; } state A all { state B; }
a_path_begins_with_the_top_state :
    broken_rule (spec (macro "M" None (row (in_state (plain "C" ∷ at "B" 7 ∷ [])) "T" ∷ []) ∷ []) (all (state "B" Basic ∷ [])))
    ≡ shown 9 "B"
a_path_begins_with_the_top_state = refl

-- macro M { in A.C.B[7].D | T; } state A all { state B; }
the_last_name_of_a_path_is_shown :
    broken_rule
    (spec (macro "M" None (row (in_state (plain "A" ∷ plain "C" ∷ at "B" 7 ∷ plain "D" ∷ [])) "T" ∷ []) ∷ []) (all (state "B" Basic ∷ [])))
    ≡ shown 9 "D"
the_last_name_of_a_path_is_shown = refl

-- macro M { in A.B.C[7] | T; } state A all { state B; }
a_step_that_is_no_child_ends_what_S6_judges :
    broken_rule (spec (macro "M" None (row (in_state (plain "A" ∷ plain "B" ∷ at "C" 7 ∷ [])) "T" ∷ []) ∷ []) (all (state "B" Basic ∷ [])))
    ≡ shown 9 "C"
a_step_that_is_no_child_ends_what_S6_judges = refl

-- macro M { in A.C | T; } state A one { default B; state B; bus C { B } }
a_bus_is_no_state :
    broken_rule (spec (macro "M" None (row (in_state (plain "A" ∷ plain "C" ∷ [])) "T" ∷ []) ∷ [])
    (one "B" (state "B" Basic ∷ []) (bus "C" ("B" ∷ []) ∷ []) []))
    ≡ shown 9 "C"
a_bus_is_no_state = refl
