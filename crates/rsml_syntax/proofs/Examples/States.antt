-- The rules on states and transitions, in examples: which rule is broken at which name, and what is kept.
use Rattle.std.specs.Prelude.{◌≡◌, [], ◌∷◌, Some, None, refl}
use Rattle.rsml_syntax.specs.declared.syntax.Body.{Basic}
use Rattle.rsml_syntax.specs.rules.Rules.{broken_rule}
use Rattle.rsml_syntax.proofs.Examples.Writing.{up_to, plus, plain, at, by, this, always, constant, event, receive, state, array, all, one, bus, move, stay, spec, shown, arrayed}

-- S10: children and defaults

-- state A one { default B; }
a_one_state_has_a_child : broken_rule (spec [] (one "B" [] [] [])) ≡ shown 10 "A"
a_one_state_has_a_child = refl

-- state A one { default C; state B; }
a_default_is_a_child : broken_rule (spec [] (one "C" (state "B" Basic ∷ []) [] [])) ≡ shown 10 "A"
a_default_is_a_child = refl

-- state A one { default C; state B; bus C { B } }
a_default_is_no_bus : broken_rule (spec [] (one "C" (state "B" Basic ∷ []) (bus "C" ("B" ∷ []) ∷ []) [])) ≡ shown 10 "A"
a_default_is_no_bus = refl

-- state A one { default C; state B all { } }
the_outer_state_is_shown_first : broken_rule (spec [] (one "C" (state "B" (all []) ∷ []) [] [])) ≡ shown 10 "A"
the_outer_state_is_shown_first = refl

-- S11: buses

-- state A one { default B; state B; bus C { B, B } }
a_bus_has_a_member_once : broken_rule (spec [] (one "B" (state "B" Basic ∷ []) (bus "C" ("B" ∷ "B" ∷ []) ∷ []) [])) ≡ shown 11 "C"
a_bus_has_a_member_once = refl

-- state A one { default B; state B; bus C { B } bus D { C } }
a_bus_is_no_member : broken_rule (spec [] (one "B" (state "B" Basic ∷ []) (bus "C" ("B" ∷ []) ∷ bus "D" ("C" ∷ []) ∷ []) [])) ≡ shown 11 "D"
a_bus_is_no_member = refl

-- S12: sources and targets

-- event E; state A one { default B; state B; bus C { B } move C -> B on E when always; }
a_source_may_be_a_bus :
    broken_rule
    (spec (event "E" None ∷ []) (one "B" (state "B" Basic ∷ []) (bus "C" ("B" ∷ []) ∷ []) (move "C" ("B" ∷ []) (plain "E") always [] ∷ [])))
    ≡ None
a_source_may_be_a_bus = refl

-- event E; state A one { default B; state B; bus C { B } move B -> C on E when always; }
a_target_is_no_bus :
    broken_rule
    (spec (event "E" None ∷ []) (one "B" (state "B" Basic ∷ []) (bus "C" ("B" ∷ []) ∷ []) (move "B" ("C" ∷ []) (plain "E") always [] ∷ [])))
    ≡ shown 12 "C"
a_target_is_no_bus = refl

-- event E; state A one { default B; state B all { state C; } move B -> B.C on E when always; }
a_target_may_be_inside_a_child :
    broken_rule (spec (event "E" None ∷ [])
    (one "B" (state "B" (all (state "C" Basic ∷ [])) ∷ []) [] (move "B" ("B" ∷ "C" ∷ []) (plain "E") always [] ∷ [])))
    ≡ None
a_target_may_be_inside_a_child = refl

-- event E; state A one { default B; state B all { state C; } move B -> D.C on E when always; }
the_last_name_of_a_target_is_shown :
    broken_rule (spec (event "E" None ∷ [])
    (one "B" (state "B" (all (state "C" Basic ∷ [])) ∷ []) [] (move "B" ("D" ∷ "C" ∷ []) (plain "E") always [] ∷ [])))
    ≡ shown 12 "C"
the_last_name_of_a_target_is_shown = refl

-- event E; state A one { default B; state B all { array C [2]; } move B -> B.C on E when always; }
a_target_is_no_array :
    broken_rule (spec (event "E" None ∷ [])
    (one "B" (state "B" (all (array "C" (up_to 2) Basic ∷ [])) ∷ []) [] (move "B" ("B" ∷ "C" ∷ []) (plain "E") always [] ∷ [])))
    ≡ shown 12 "C"
a_target_is_no_array = refl

-- event E; state A one { default B; state B all { array C [2] all { state D; } } move B -> B.C.D on E when always; }
a_target_is_inside_no_array :
    broken_rule (spec (event "E" None ∷ []) (one "B" (state "B" (all (array "C" (up_to 2) (all (state "D" Basic ∷ [])) ∷ [])) ∷ []) []
    (move "B" ("B" ∷ "C" ∷ "D" ∷ []) (plain "E") always [] ∷ [])))
    ≡ shown 12 "D"
a_target_is_inside_no_array = refl

-- event E; state A one { default B; state B; move C -> D on E when always; }
the_source_stands_before_the_target :
    broken_rule (spec (event "E" None ∷ []) (one "B" (state "B" Basic ∷ []) [] (move "C" ("D" ∷ []) (plain "E") always [] ∷ [])))
    ≡ shown 12 "C"
the_source_stands_before_the_target = refl

-- event E; state A one { default B; state B one { default C; state C; stay X on E when always; } stay Y on E when always; }
inner_transitions_stand_before_outer_ones :
    broken_rule (spec (event "E" None ∷ []) (one "B" (state "B" (one "C" (state "C" Basic ∷ []) [] (stay "X" (plain "E") always [] ∷ [])) ∷ []) []
    (stay "Y" (plain "E") always [] ∷ [])))
    ≡ shown 12 "X"
inner_transitions_stand_before_outer_ones = refl

-- S13: arrays

-- state A one { default B; state B; array C [2]; }
an_array_is_in_no_one_state : broken_rule (spec [] (one "B" (state "B" Basic ∷ array "C" (up_to 2) Basic ∷ []) [] [])) ≡ shown 13 "C"
an_array_is_in_no_one_state = refl

-- state A all { array B [2] all { state C all { array D [2]; } } }
an_array_is_not_deep_in_an_array :
    broken_rule (spec [] (all (array "B" (up_to 2) (all (state "C" (all (array "D" (up_to 2) Basic ∷ [])) ∷ [])) ∷ [])))
    ≡ shown 13 "D"
an_array_is_not_deep_in_an_array = refl

-- state A all { state C all { array D [2]; } }
an_array_may_be_deep_in_an_all_state : broken_rule (spec [] (all (state "C" (all (array "D" (up_to 2) Basic ∷ [])) ∷ []))) ≡ None
an_array_may_be_deep_in_an_all_state = refl

-- S14: repetitions

-- event E; event G [2]; state A one { default B; state B; stay B on E when always raise G[1], E, G[01]; }
a_raise_list_has_one_index_once :
    broken_rule (spec (event "E" None ∷ event "G" (Some (up_to 2)) ∷ [])
    (one "B" (state "B" Basic ∷ []) [] (stay "B" (plain "E") always (at "G" 1 ∷ plain "E" ∷ at "G" 1 ∷ []) ∷ [])))
    ≡ shown 14 "G"
a_raise_list_has_one_index_once = refl

-- event E; event G [2]; state A one { default B; state B; stay B on E when always raise G[1], G[2]; }
a_raise_list_may_have_two_indices :
    broken_rule (spec (event "E" None ∷ event "G" (Some (up_to 2)) ∷ [])
    (one "B" (state "B" Basic ∷ []) [] (stay "B" (plain "E") always (at "G" 1 ∷ at "G" 2 ∷ []) ∷ [])))
    ≡ None
a_raise_list_may_have_two_indices = refl

-- constant K = 1; event E; event G [2]; state A one { default B; state B; stay B on E when always raise G[1], G[K]; }
written_indices_are_compared :
    broken_rule (spec (constant "K" (plus 1) ∷ event "E" None ∷ event "G" (Some (up_to 2)) ∷ [])
    (one "B" (state "B" Basic ∷ []) [] (stay "B" (plain "E") always (at "G" 1 ∷ by "G" "K" ∷ []) ∷ [])))
    ≡ None
written_indices_are_compared = refl

-- constant K = 1; event E; event G [2]; state A one { default B; state B; stay B on E when always raise G[K], G[K]; }
a_written_name_is_repeated :
    broken_rule (spec (constant "K" (plus 1) ∷ event "E" None ∷ event "G" (Some (up_to 2)) ∷ [])
    (one "B" (state "B" Basic ∷ []) [] (stay "B" (plain "E") always (by "G" "K" ∷ by "G" "K" ∷ []) ∷ [])))
    ≡ shown 14 "G"
a_written_name_is_repeated = refl

-- event E [2]; state A all { array B [2] one { default C; state C; stay C on E[this] when always raise E[this], E[this]; } }
this_is_repeated :
    broken_rule (spec (event "E" (Some (up_to 2)) ∷ [])
    (all (array "B" (up_to 2) (one "C" (state "C" Basic ∷ []) [] (stay "C" (this "E") always (this "E" ∷ this "E" ∷ []) ∷ [])) ∷ [])))
    ≡ shown 14 "E"
this_is_repeated = refl

-- event E; state A one { default B; state B; stay B on E when always raise E, E; }
an_event_is_repeated :
    broken_rule (spec (event "E" None ∷ []) (one "B" (state "B" Basic ∷ []) [] (stay "B" (plain "E") always (plain "E" ∷ plain "E" ∷ []) ∷ [])))
    ≡ shown 14 "E"
an_event_is_repeated = refl

-- range R 0 .. 9; input X [2] : R = 0; event E; receive Q (X[1], X[2]) raise E; state A;
a_receive_lists_an_input_once_whatever_its_index :
    broken_rule (spec (arrayed (event "E" None ∷ receive "Q" None (at "X" 1 ∷ at "X" 2 ∷ []) (plain "E") ∷ [])) Basic)
    ≡ shown 14 "X"
a_receive_lists_an_input_once_whatever_its_index = refl
