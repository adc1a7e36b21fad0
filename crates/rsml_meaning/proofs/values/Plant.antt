-- A specification of the examples, as a value. tools/syntax_values.py writes this file.
use Rattle.std.specs.Prelude.{[], ◌∷◌, Some, None}
use Rattle.rsml_syntax.specs.declared.syntax.Spec.{Spec}
use Rattle.rsml_syntax.specs.declared.syntax.Body.{Body, Basic, One', All', end_of-StateDecl, more_of-StateDecl}
use Rattle.rsml_meaning.proofs.Written.{Dot, F, GreaterEqual, T, at_name, at_this, compares, digits, event, every_of, from_number, in_state, input, is_macro, just, macro, move, name, number, of, phrase, plain, plus, range, receive, row, some_of, specification, stay, when}

abbrev pub plant_body_unit : Body
plant_body_unit = One' (name "Off") (tt ∷ tt ∷ [])
    (more_of-StateDecl (name "Off") None Basic
    (more_of-StateDecl (name "On") None Basic end_of-StateDecl)) []
    (move "Off" ("On" ∷ []) (plain "Go") (when (row (phrase (compares (just (of (at_this "Depth"))) GreaterEqual (just (digits 500)))) (T ∷ []) ∷ [])) [] ∷
    stay "Off" (plain "Go") (when (row (phrase (compares (just (of (at_this "Depth"))) GreaterEqual (just (digits 500)))) (F ∷ []) ∷ [])) [] ∷
    move "On" ("Off" ∷ []) (plain "Go") (when (row (phrase (is_macro (plain "Full"))) (T ∷ Dot ∷ []) ∷ row (phrase (is_macro (plain "High"))) (Dot ∷ F ∷ []) ∷ [])) [] ∷
    stay "On" (plain "Go") (when (row (phrase (is_macro (plain "Full"))) (F ∷ []) ∷ row (phrase (is_macro (plain "High"))) (T ∷ []) ∷ [])) [] ∷
    [])

abbrev pub plant_body : Body
plant_body = All' (tt ∷ [])
    (more_of-StateDecl (name "Unit") (Some (number 3)) plant_body_unit end_of-StateDecl)

abbrev pub plant : Spec
plant = specification "Plant"
    (range "Level" (plus 0) (plus 999) ∷
    input "Depth" (Some (number 3)) "Level" (from_number (plus 0)) ∷
    event "Go" None ∷
    macro "Full" None (row (every_of "k" (number 3) (in_state (plain "Plant" ∷ at_name "Unit" "k" ∷ plain "On" ∷ []))) (T ∷ []) ∷ []) ∷
    macro "High" None (row (some_of "k" (number 3) (compares (just (of (at_name "Depth" "k"))) GreaterEqual (just (digits 500)))) (T ∷ []) ∷ []) ∷
    receive "Load" (Some (number 3)) (at_this "Depth" ∷ []) (plain "Go") ∷
    [])
    "Plant" plant_body
