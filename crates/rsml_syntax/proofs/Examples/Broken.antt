-- For each rule a text that breaks it.
use Rattle.std.specs.Prelude.{◌≡◌, [], ◌∷◌, Some, None, refl}
use Rattle.rsml_syntax.specs.declared.syntax.Guard.{Guard}
use Rattle.rsml_syntax.specs.declared.syntax.Spec.{Spec}
use Rattle.rsml_syntax.specs.declared.syntax.Relation.TheVariants as relations
use Rattle.rsml_syntax.specs.declared.syntax.Body.{Basic}
use Rattle.rsml_syntax.specs.rules.Rules.{broken_rule}
use Rattle.rsml_syntax.proofs.Examples.Writing.{up_to, plus, plain, in_state, compare, row, always, table, range, from, input, event, macro, function, receive, state, array, all, one, bus, move, stay, specification, spec, shown, the, num, ones, switched}

-- event E; event E; state A;
a_name_is_declared_once : broken_rule (spec (event "E" None ∷ event "E" None ∷ []) Basic) ≡ shown 1 "E"
a_name_is_declared_once = refl

-- event E; input X : E = 0; state A;
an_input_has_a_type : broken_rule (spec (event "E" None ∷ input "X" None "E" (from (plus 0)) ∷ []) Basic) ≡ shown 3 "E"
an_input_has_a_type = refl

-- range R 2 .. 1; state A;
a_range_does_not_fall : broken_rule (spec (range "R" (plus 2) (plus 1) ∷ []) Basic) ≡ shown 4 "R"
a_range_does_not_fall = refl

-- event E [65]; state A;
a_size_is_at_most_64 : broken_rule (spec (event "E" (Some (up_to 65)) ∷ []) Basic) ≡ shown 5 "E"
a_size_is_at_most_64 = refl

-- event E [2]; receive R () raise E; state A;
an_arrayed_event_has_an_index : broken_rule (spec (event "E" (Some (up_to 2)) ∷ receive "R" None [] (plain "E") ∷ []) Basic) ≡ shown 6 "E"
an_arrayed_event_has_an_index = refl

-- range R 0 .. 1; input X : R = 2; state A;
an_initial_value_is_in_its_range :
    broken_rule (spec (range "R" (plus 0) (plus 1) ∷ input "X" None "R" (from (plus 2)) ∷ []) Basic)
    ≡ shown 7 "X"
an_initial_value_is_in_its_range = refl

-- macro M { in A.B | T; } state A;
a_path_names_a_state : broken_rule (spec (macro "M" None (row (in_state (plain "A" ∷ plain "B" ∷ [])) "T" ∷ []) ∷ []) Basic) ≡ shown 9 "B"
a_path_names_a_state = refl

-- state A all { }
an_all_state_has_a_child : broken_rule (spec [] (all [])) ≡ shown 10 "A"
an_all_state_has_a_child = refl

-- state A one { default B; state B; bus C { D } }
a_member_of_a_bus_is_a_child : broken_rule (spec [] (one "B" (state "B" Basic ∷ []) (bus "C" ("D" ∷ []) ∷ []) [])) ≡ shown 11 "C"
a_member_of_a_bus_is_a_child = refl

-- event E; state A one { default B; state B; stay C on E when always; }
a_source_is_a_child_or_a_bus :
    broken_rule (spec (event "E" None ∷ []) (one "B" (state "B" Basic ∷ []) [] (stay "C" (plain "E") always [] ∷ [])))
    ≡ shown 12 "C"
a_source_is_a_child_or_a_bus = refl

-- state A all { array B [2] all { array C [2]; } }
an_array_is_in_no_array : broken_rule (spec [] (all (array "B" (up_to 2) (all (array "C" (up_to 2) Basic ∷ [])) ∷ []))) ≡ shown 13 "C"
an_array_is_in_no_array = refl

-- range R 0 .. 1; input X : R = 0; event E; receive Q (X, X) raise E; state A;
a_receive_lists_an_input_once :
    broken_rule (spec
    (range "R" (plus 0) (plus 1)
    ∷ input "X" None "R" (from (plus 0))
    ∷ event "E" None
    ∷ receive "Q" None (plain "X" ∷ plain "X" ∷ []) (plain "E")
    ∷ [])
    Basic)
    ≡ shown 14 "X"
a_receive_lists_an_input_once = refl

-- function G { } state A;
a_function_has_a_case : broken_rule (spec (function "G" None [] ∷ []) Basic) ≡ shown 15 "G"
a_function_has_a_case = refl

-- macro M { 1 + 1 + 1 + 1 + 1 + 1 + 1 + 1 + 1 = 9 | T; } state A;
a_sum_has_at_most_8_terms :
    broken_rule (spec (macro "M" None (row (compare (ones 9) relations.Equal (num 9)) "T" ∷ []) ∷ []) Basic)
    ≡ shown 16 "M"
a_sum_has_at_most_8_terms = refl

-- the lamp specification, whose first guard is given
abbrev pub lamp : Guard → Spec
lamp first =
    specification "Lamp" (switched (event "Tick" None ∷ receive "Set" None (plain "Lever" ∷ []) (plain "Tick") ∷ [])) "Lamp" (one "Off" (state "Off" Basic ∷ state "On" Basic ∷ []) []
    (move "Off" ("On" ∷ []) (plain "Tick") first []
    ∷ stay "Off" (plain "Tick") (table (row (compare (the "Lever") relations.Equal (the "Up")) "F" ∷ [])) []
    ∷ move "On" ("Off" ∷ []) (plain "Tick") (table (row (compare (the "Lever") relations.Equal (the "Down")) "T" ∷ [])) []
    ∷ stay "On" (plain "Tick") (table (row (compare (the "Lever") relations.Equal (the "Down")) "F" ∷ [])) []
    ∷ []))

-- { Lever = Up | T; }
the_lamp_is_kept : broken_rule (lamp (table (row (compare (the "Lever") relations.Equal (the "Up")) "T" ∷ []))) ≡ None
the_lamp_is_kept = refl

-- { Lever = Upp | T; }
a_used_name_is_declared : broken_rule (lamp (table (row (compare (the "Lever") relations.Equal (the "Upp")) "T" ∷ []))) ≡ shown 2 "Upp"
a_used_name_is_declared = refl

-- { Lever = Up | T; Lever = Down | F .; }
the_rows_of_a_table_are_of_one_length :
    broken_rule (lamp (table (row (compare (the "Lever") relations.Equal (the "Up")) "T" ∷ row (compare (the "Lever") relations.Equal (the "Down")) "F." ∷ [])))
    ≡ shown 8 "Off"
the_rows_of_a_table_are_of_one_length = refl
