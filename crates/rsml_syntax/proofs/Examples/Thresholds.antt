-- What the limit on thresholds and keys counts, in examples.
use Rattle.std.specs.Prelude.{◌≡◌, ℕ, List, [], ◌∷◌, Some, None, refl}
use Rattle.rsml_syntax.specs.declared.syntax.Relation.{Relation}
use Rattle.rsml_syntax.specs.declared.syntax.Sum.{Sum}
use Rattle.rsml_syntax.specs.declared.syntax.Row.{Row}
use Rattle.rsml_syntax.specs.declared.syntax.Relation.TheVariants as relations
use Rattle.rsml_syntax.specs.declared.syntax.Body.{Basic}
use Rattle.rsml_syntax.specs.limits.Limits.{thresholds_and_keys}
use Rattle.rsml_syntax.proofs.Examples.Writing.{up_to, plus, minus, plain, at, by, this, number, name, previous, more, less, sum, single, compare, function_is, row, some, every, always, table, constant, from, input, event, macro, case, function, quiet, on, send, state, array, all, one, bus, stay, spec, the, num, arrayed, unarrayed, switched}

abbrev says : Sum → Relation → Sum → Row
says left relation right = row (compare left relation right) "T"

-- with `range R 0 .. 9; input X : R = 0; input Y : R = 0; constant K = 5; constant L = -5;`, and a macro that nothing names
abbrev counted : List Row → ℕ
counted rows = thresholds_and_keys (spec
    (unarrayed (input "Y" None "R" (from (plus 0)) ∷ constant "K" (plus 5) ∷ constant "L" (minus 5) ∷ macro "M" None rows ∷ []))
    Basic)

-- X < 5 | T; X >= 5 | T;
a_tight_comparison_asks_for_its_constant : counted (says (the "X") relations.Less (num 5) ∷ says (the "X") relations.GreaterEqual (num 5) ∷ []) ≡ 1
a_tight_comparison_asks_for_its_constant = refl

-- X <= 5 | T; X > 5 | T; X < 6 | T;
an_inclusive_one_asks_for_the_next :
    counted (says (the "X") relations.LessEqual (num 5) ∷ says (the "X") relations.Greater (num 5) ∷ says (the "X") relations.Less (num 6) ∷ [])
    ≡ 1
an_inclusive_one_asks_for_the_next = refl

-- X = 5 | T; X != 5 | T;
an_equation_asks_for_both : counted (says (the "X") relations.Equal (num 5) ∷ says (the "X") relations.NotEqual (num 5) ∷ []) ≡ 2
an_equation_asks_for_both = refl

-- X >= 0 | T; X < 0 | T;
the_lowest_number_is_no_threshold : counted (says (the "X") relations.GreaterEqual (num 0) ∷ says (the "X") relations.Less (num 0) ∷ []) ≡ 0
the_lowest_number_is_no_threshold = refl

-- X = -3 | T; X > -2 | T;
a_number_below_the_type_is_no_threshold :
    counted (says (the "X") relations.Equal (sum (less (number 3) ∷ [])) ∷ says (the "X") relations.Greater (sum (less (number 2) ∷ [])) ∷ [])
    ≡ 0
a_number_below_the_type_is_no_threshold = refl

-- X = 0 | T;
an_equation_with_the_lowest_number_asks_for_the_next : counted (says (the "X") relations.Equal (num 0) ∷ []) ≡ 1
an_equation_with_the_lowest_number_asks_for_the_next = refl

-- X = 9 | T; X < 9 | T;
the_highest_number_is_a_threshold : counted (says (the "X") relations.Equal (num 9) ∷ says (the "X") relations.Less (num 9) ∷ []) ≡ 1
the_highest_number_is_a_threshold = refl

-- X < 10 | T; X = 100 | T;
a_number_above_the_type_is_no_threshold : counted (says (the "X") relations.Less (num 10) ∷ says (the "X") relations.Equal (num 100) ∷ []) ≡ 0
a_number_above_the_type_is_no_threshold = refl

-- 5 > X | T; 4 >= X | T; X < 5 | T;
a_constant_on_the_left_is_mirrored :
    counted (says (num 5) relations.Greater (the "X") ∷ says (num 4) relations.GreaterEqual (the "X") ∷ says (the "X") relations.Less (num 5) ∷ [])
    ≡ 1
a_constant_on_the_left_is_mirrored = refl

-- X < K + 1 - 2 | T; X < 4 | T;
the_number_of_a_constant_sum_counts :
    counted (says (the "X") relations.Less (sum (more (name (plain "K")) ∷ more (number 1) ∷ less (number 2) ∷ [])) ∷ says (the "X") relations.Less (num 4) ∷ [])
    ≡ 1
the_number_of_a_constant_sum_counts = refl

-- X < 5 | T; Y < 5 | T; previous X < 5 | T;
each_cell_has_its_own_thresholds :
    counted (says (the "X") relations.Less (num 5) ∷ says (the "Y") relations.Less (num 5) ∷ says (single (previous (plain "X"))) relations.Less (num 5) ∷ [])
    ≡ 3
each_cell_has_its_own_thresholds = refl

-- K = 5 | T; 1 < 2 | T;
two_constants_ask_for_nothing : counted (says (the "K") relations.Equal (num 5) ∷ says (num 1) relations.Less (num 2) ∷ []) ≡ 0
two_constants_ask_for_nothing = refl

-- X < Y | T;
two_cells_have_a_key : counted (says (the "X") relations.Less (the "Y") ∷ []) ≡ 1
two_cells_have_a_key = refl

-- X < Y | T; Y > X | T; X <= Y | T; Y >= X | T;
the_greater_side_goes_to_the_right :
    counted (says (the "X") relations.Less (the "Y") ∷ says (the "Y") relations.Greater (the "X") ∷ says (the "X") relations.LessEqual (the "Y") ∷ says (the "Y") relations.GreaterEqual (the "X") ∷ [])
    ≡ 2
the_greater_side_goes_to_the_right = refl

-- X = Y | T; X != Y | T;
an_equation_and_its_negation_have_one_key : counted (says (the "X") relations.Equal (the "Y") ∷ says (the "X") relations.NotEqual (the "Y") ∷ []) ≡ 1
an_equation_and_its_negation_have_one_key = refl

-- X = Y | T; Y = X | T;
an_equation_has_another_key_the_other_way_round :
    counted (says (the "X") relations.Equal (the "Y") ∷ says (the "Y") relations.Equal (the "X") ∷ [])
    ≡ 2
an_equation_has_another_key_the_other_way_round = refl

-- X < Y | T; X >= Y | T;
a_comparison_and_its_negation_have_two_keys :
    counted (says (the "X") relations.Less (the "Y") ∷ says (the "X") relations.GreaterEqual (the "Y") ∷ [])
    ≡ 2
a_comparison_and_its_negation_have_two_keys = refl

-- -X < 5 | T;
a_cell_with_a_minus_is_linear : counted (says (sum (less (name (plain "X")) ∷ [])) relations.Less (num 5) ∷ []) ≡ 1
a_cell_with_a_minus_is_linear = refl

-- X + 1 < 5 | T; X + 1 < K | T;
constants_are_their_numbers :
    counted (says (sum (more (name (plain "X")) ∷ more (number 1) ∷ [])) relations.Less (num 5) ∷ says (sum (more (name (plain "X")) ∷ more (number 1) ∷ [])) relations.Less (the "K") ∷ [])
    ≡ 1
constants_are_their_numbers = refl

-- X + Y < -5 | T; X + Y < L | T;
a_minus_is_not_part_of_a_number :
    counted (says (sum (more (name (plain "X")) ∷ more (name (plain "Y")) ∷ [])) relations.Less (sum (less (number 5) ∷ [])) ∷ says (sum (more (name (plain "X")) ∷ more (name (plain "Y")) ∷ [])) relations.Less (the "L") ∷ [])
    ≡ 2
a_minus_is_not_part_of_a_number = refl

-- X + Y < 5 | T; Y + X < 5 | T;
terms_are_not_reordered :
    counted (says (sum (more (name (plain "X")) ∷ more (name (plain "Y")) ∷ [])) relations.Less (num 5) ∷ says (sum (more (name (plain "Y")) ∷ more (name (plain "X")) ∷ [])) relations.Less (num 5) ∷ [])
    ≡ 2
terms_are_not_reordered = refl

-- enumeration Switch { Down, Up } input Lever : Switch = Down; macro M { Lever = Up | T; Lever = Down | T; } state A;
a_value_of_an_enumeration_is_its_number :
    thresholds_and_keys (spec (switched
    (macro "M" None
    (row (compare (the "Lever") relations.Equal (the "Up")) "T" ∷ row (compare (the "Lever") relations.Equal (the "Down")) "T" ∷ [])
    ∷ []))
    Basic)
    ≡ 1
a_value_of_an_enumeration_is_its_number = refl

-- constant K = 1; range R 0 .. 9; input X [2] : R = 0; macro M { X[1] < 5 | T; X[K] < 5 | T; } state A;
a_cell_is_the_same_by_number_and_by_constant :
    thresholds_and_keys (spec
    (constant "K" (plus 1)
    ∷ arrayed
    (macro "M" None
    (row (compare (single (name (at "X" 1))) relations.Less (num 5)) "T"
    ∷ row (compare (single (name (by "X" "K"))) relations.Less (num 5)) "T"
    ∷ [])
    ∷ []))
    Basic)
    ≡ 1
a_cell_is_the_same_by_number_and_by_constant = refl

-- range R 0 .. 9; input X [2] : R = 0; macro M [2] { X[this] < 5 | T; } state A;
a_macro_is_read_for_each_index :
    thresholds_and_keys
    (spec (arrayed (macro "M" (Some (up_to 2)) (row (compare (single (name (this "X"))) relations.Less (num 5)) "T" ∷ []) ∷ [])) Basic)
    ≡ 2
a_macro_is_read_for_each_index = refl

-- event E; range R 0 .. 9; input X [2] : R = 0; state A all { array B [2] one { default C; state C; stay C on E when { X[this] < 5 | T; }; } }
an_array_is_read_for_each_index :
    thresholds_and_keys (spec (event "E" None ∷ arrayed []) (all
    (array "B" (up_to 2) (one "C" (state "C" Basic ∷ []) []
    (stay "C" (plain "E") (table (row (compare (single (name (this "X"))) relations.Less (num 5)) "T" ∷ [])) [] ∷ []))
    ∷ [])))
    ≡ 2
an_array_is_read_for_each_index = refl

-- range R 0 .. 9; input X [2] : R = 0; macro M { every k of 2 : X[k] < 5 | T; } state A;
a_row_is_read_for_each_value_of_its_variable :
    thresholds_and_keys (spec (arrayed (macro "M" None (every "k" (up_to 2) (compare (single (name (by "X" "k"))) relations.Less (num 5)) "T" ∷ []) ∷ [])) Basic)
    ≡ 2
a_row_is_read_for_each_value_of_its_variable = refl

-- event E; range R 0 .. 9; input X : R = 0; state A one { default B; state B; state C; bus D { B, C } stay D on E when { X + X < 5 | T; }; }
a_bus_is_read_once :
    thresholds_and_keys (spec (event "E" None ∷ unarrayed []) (one "B" (state "B" Basic ∷ state "C" Basic ∷ []) (bus "D" ("B" ∷ "C" ∷ []) ∷ [])
    (stay "D" (plain "E")
    (table (row (compare (sum (more (name (plain "X")) ∷ more (name (plain "X")) ∷ [])) relations.Less (num 5)) "T" ∷ []))
    []
    ∷ [])))
    ≡ 1
a_bus_is_read_once = refl

-- range R 0 .. 9; input X : R = 0; function V { X when always; } state A;
a_function_that_nothing_compares_asks_for_nothing :
    thresholds_and_keys (spec (unarrayed (function "V" None (case (the "X") always ∷ []) ∷ [])) Basic)
    ≡ 0
a_function_that_nothing_compares_asks_for_nothing = refl

-- range R 0 .. 9; input X : R = 0; function V { X when always; X + 1 when always; 3 when always; } macro M { function V < 5 | T; } state A;
a_function_is_read_as_its_cases :
    thresholds_and_keys (spec (unarrayed
    (function "V" None
    (case (the "X") always ∷ case (sum (more (name (plain "X")) ∷ more (number 1) ∷ [])) always ∷ case (num 3) always ∷ [])
    ∷ macro "M" None (row (function_is (plain "V") relations.Less (num 5)) "T" ∷ [])
    ∷ []))
    Basic)
    ≡ 2
a_function_is_read_as_its_cases = refl

-- range R 0 .. 9; input X : R = 0; function V { 3 when { X < 5 | T; }; } state A;
its_guards_count_as_all_tables :
    thresholds_and_keys
    (spec (unarrayed (function "V" None (case (num 3) (table (row (compare (the "X") relations.Less (num 5)) "T" ∷ [])) ∷ []) ∷ [])) Basic)
    ≡ 1
its_guards_count_as_all_tables = refl

-- range R 0 .. 9; input X [2] : R = 0; function V [2] { X[this] when always; } macro M { function V[2] < 5 | T; X[2] < 5 | T; } state A;
a_function_is_read_in_its_own_instance :
    thresholds_and_keys (spec (arrayed
    (function "V" (Some (up_to 2)) (case (single (name (this "X"))) always ∷ [])
    ∷ macro "M" None
    (row (function_is (at "V" 2) relations.Less (num 5)) "T" ∷ row (compare (single (name (at "X" 2))) relations.Less (num 5)) "T" ∷ [])
    ∷ []))
    Basic)
    ≡ 1
a_function_is_read_in_its_own_instance = refl

-- range R 0 .. 9; input X [2] : R = 0; function V [2] { X[this] when always; } macro M { some k of 2 : function V[k] < 5 | T; } state A;
a_quantified_function_is_read_in_each_instance :
    thresholds_and_keys (spec (arrayed
    (function "V" (Some (up_to 2)) (case (single (name (this "X"))) always ∷ [])
    ∷ macro "M" None (some "k" (up_to 2) (function_is (by "V" "k") relations.Less (num 5)) "T" ∷ [])
    ∷ []))
    Basic)
    ≡ 2
a_quantified_function_is_read_in_each_instance = refl

-- event E; range R 0 .. 9; input X : R = 0; send S () { on E when { X < 5 | T; } quiet; } state A;
the_guard_of_a_send_counts :
    thresholds_and_keys (spec
    (event "E" None
    ∷ unarrayed (send "S" None [] (on (plain "E") (table (row (compare (the "X") relations.Less (num 5)) "T" ∷ [])) quiet ∷ []) ∷ []))
    Basic)
    ≡ 1
the_guard_of_a_send_counts = refl
