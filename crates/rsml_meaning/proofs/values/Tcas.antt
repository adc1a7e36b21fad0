-- A specification of the examples, as a value. tools/syntax_values.py writes this file.
use Rattle.std.specs.Prelude.{[], ◌∷◌, Some, None}
use Rattle.rsml_syntax.specs.declared.syntax.Spec.{Spec}
use Rattle.rsml_syntax.specs.declared.syntax.Body.{Body, Basic, One', All', end_of-StateDecl, more_of-StateDecl}
use Rattle.rsml_meaning.proofs.Written.{Equal, F, GreaterEqual, Less, T, always, at_name, at_this, bus, case, compares, constant, digits, enumeration, event, from_name, from_number, function, in_state, input, is_macro, just, macro, minus, move, name, number, of, phrase, plain, plus, range, receive, row, send, send_case, sends, some_of, specification, stay, value, value_of, when}

abbrev pub tcas_body_mode : Body
tcas_body_mode = One' (name "Off") (tt ∷ tt ∷ [])
    (more_of-StateDecl (name "Off") None Basic
    (more_of-StateDecl (name "On") None Basic end_of-StateDecl)) []
    (move "Off" ("On" ∷ []) (plain "Own") (when (row (phrase (compares (just (of (plain "Selector"))) Equal (just (of (plain "Active"))))) (T ∷ []) ∷ [])) (plain "Show" ∷ []) ∷
    stay "Off" (plain "Own") (when (row (phrase (compares (just (of (plain "Selector"))) Equal (just (of (plain "Active"))))) (F ∷ []) ∷ [])) [] ∷
    move "On" ("Off" ∷ []) (plain "Own") (when (row (phrase (compares (just (of (plain "Selector"))) Equal (just (of (plain "Active"))))) (F ∷ []) ∷ [])) (plain "Show" ∷ []) ∷
    stay "On" (plain "Own") (when (row (phrase (compares (just (of (plain "Selector"))) Equal (just (of (plain "Active"))))) (T ∷ []) ∷ [])) (plain "Show" ∷ []) ∷
    [])

abbrev pub tcas_body_other : Body
tcas_body_other = One' (name "Far") (tt ∷ tt ∷ tt ∷ [])
    (more_of-StateDecl (name "Far") None Basic
    (more_of-StateDecl (name "Near") None Basic
    (more_of-StateDecl (name "Threat") None Basic end_of-StateDecl))) (bus "Any" ("Far" ∷ "Near" ∷ "Threat" ∷ []) ∷ [])
    (move "Any" ("Threat" ∷ []) (at_this "Scan") (when (row (phrase (is_macro (at_this "Threat"))) (T ∷ []) ∷ [])) (plain "Show" ∷ []) ∷
    move "Any" ("Near" ∷ []) (at_this "Scan") (when (row (phrase (is_macro (at_this "Threat"))) (F ∷ []) ∷ row (phrase (is_macro (at_this "Near"))) (T ∷ []) ∷ [])) (plain "Show" ∷ []) ∷
    move "Any" ("Far" ∷ []) (at_this "Scan") (when (row (phrase (is_macro (at_this "Threat"))) (F ∷ []) ∷ row (phrase (is_macro (at_this "Near"))) (F ∷ []) ∷ [])) (plain "Show" ∷ []) ∷
    [])

abbrev pub tcas_body : Body
tcas_body = All' (tt ∷ tt ∷ [])
    (more_of-StateDecl (name "Mode") None tcas_body_mode
    (more_of-StateDecl (name "Other") (Some (number 30)) tcas_body_other end_of-StateDecl))

abbrev pub tcas : Spec
tcas = specification "Tcas"
    (enumeration "Power" ("Standby" ∷ "Active" ∷ []) ∷
    enumeration "Level" ("Clear" ∷ "Traffic" ∷ "Resolution" ∷ []) ∷
    range "Feet" (minus 1000) (plus 60000) ∷
    range "Seconds" (plus 0) (plus 255) ∷
    constant "Floor" (plus 1000) ∷
    input "Selector" None "Power" (from_name "Standby") ∷
    input "Own_Alt" None "Feet" (from_number (plus 0)) ∷
    input "Tau" (Some (number 30)) "Seconds" (from_number (plus 255)) ∷
    event "Own" None ∷
    event "Scan" (Some (number 30)) ∷
    event "Show" None ∷
    macro "Enabled" None (row (phrase (in_state (plain "Tcas" ∷ plain "Mode" ∷ plain "On" ∷ []))) (T ∷ []) ∷ row (phrase (compares (just (of (plain "Own_Alt"))) GreaterEqual (just (of (plain "Floor"))))) (T ∷ []) ∷ []) ∷
    macro "Threat" (Some (number 30)) (row (phrase (is_macro (plain "Enabled"))) (T ∷ []) ∷ row (phrase (compares (just (of (at_this "Tau"))) Less (just (digits 25)))) (T ∷ []) ∷ []) ∷
    macro "Near" (Some (number 30)) (row (phrase (is_macro (plain "Enabled"))) (T ∷ []) ∷ row (phrase (compares (just (of (at_this "Tau"))) Less (just (digits 40)))) (T ∷ []) ∷ []) ∷
    function "Worst" None (case (just (of (plain "Resolution"))) (when (row (some_of "k" (number 30) (in_state (plain "Tcas" ∷ at_name "Other" "k" ∷ plain "Threat" ∷ []))) (T ∷ []) ∷ [])) ∷
    case (just (of (plain "Traffic"))) (when (row (some_of "k" (number 30) (in_state (plain "Tcas" ∷ at_name "Other" "k" ∷ plain "Threat" ∷ []))) (F ∷ []) ∷ row (some_of "k" (number 30) (in_state (plain "Tcas" ∷ at_name "Other" "k" ∷ plain "Near" ∷ []))) (T ∷ []) ∷ [])) ∷
    case (just (of (plain "Clear"))) (when (row (some_of "k" (number 30) (in_state (plain "Tcas" ∷ at_name "Other" "k" ∷ plain "Threat" ∷ []))) (F ∷ []) ∷ row (some_of "k" (number 30) (in_state (plain "Tcas" ∷ at_name "Other" "k" ∷ plain "Near" ∷ []))) (F ∷ []) ∷ [])) ∷
    []) ∷
    receive "Pilot" None (plain "Selector" ∷ plain "Own_Alt" ∷ []) (plain "Own") ∷
    receive "Radar" (Some (number 30)) (at_this "Tau" ∷ []) (at_this "Scan") ∷
    send "Display" None ("Advice" ∷ "Height" ∷ []) (send_case (plain "Show") always (sends (value_of (plain "Worst") ∷ value (just (of (plain "Own_Alt"))) ∷ [])) ∷
    []) ∷
    [])
    "Tcas" tcas_body
