-- A specification of the examples, as a value. tools/syntax_values.py writes this file.
use Rattle.std.specs.Prelude.{[], ◌∷◌, Some, None}
use Rattle.rsml_syntax.specs.declared.syntax.Spec.{Spec}
use Rattle.rsml_syntax.specs.declared.syntax.Body.{Body, Basic, One', All', end_of-StateDecl, more_of-StateDecl}
use Rattle.rsml_meaning.proofs.Written.{F, GreaterEqual, Less, T, add, always, at_name, at_number, at_this, bus, case, compares, constant, digits, enumeration, event, every_of, from_name, from_number, function, in_state, input, is_function, is_macro, just, less, macro, minus, move, name, named, number, of, phrase, plain, plus, previous, quiet, range, receive, row, send, send_case, sends, some_of, specification, stay, total, value, value_of, when}

abbrev pub deep_body_p_b_u_u2 : Body
deep_body_p_b_u_u2 = One' (name "V1") (tt ∷ tt ∷ [])
    (more_of-StateDecl (name "V1") None Basic
    (more_of-StateDecl (name "V2") None Basic end_of-StateDecl)) []
    []

abbrev pub deep_body_p_b_u : Body
deep_body_p_b_u = One' (name "U1") (tt ∷ tt ∷ [])
    (more_of-StateDecl (name "U1") None Basic
    (more_of-StateDecl (name "U2") None deep_body_p_b_u_u2 end_of-StateDecl)) []
    []

abbrev pub deep_body_p_b_w : Body
deep_body_p_b_w = One' (name "W1") (tt ∷ tt ∷ [])
    (more_of-StateDecl (name "W1") None Basic
    (more_of-StateDecl (name "W2") None Basic end_of-StateDecl)) []
    (move "W1" ("W2" ∷ []) (at_this "Go") (when (row (phrase (in_state (plain "Top" ∷ plain "P" ∷ plain "B" ∷ plain "U" ∷ plain "U2" ∷ plain "V2" ∷ []))) (T ∷ []) ∷ [])) [] ∷
    stay "W1" (at_this "Go") (when (row (phrase (in_state (plain "Top" ∷ plain "P" ∷ plain "B" ∷ plain "U" ∷ plain "U2" ∷ plain "V2" ∷ []))) (F ∷ []) ∷ [])) [] ∷
    stay "W2" (at_this "Go") always [] ∷
    [])

abbrev pub deep_body_p_b : Body
deep_body_p_b = All' (tt ∷ tt ∷ [])
    (more_of-StateDecl (name "U") None deep_body_p_b_u
    (more_of-StateDecl (name "W") (Some (number 2)) deep_body_p_b_w end_of-StateDecl))

abbrev pub deep_body_p : Body
deep_body_p = One' (name "A") (tt ∷ tt ∷ [])
    (more_of-StateDecl (name "A") None Basic
    (more_of-StateDecl (name "B") None deep_body_p_b end_of-StateDecl)) (bus "Q" ("A" ∷ []) ∷ [])
    (move "Q" ("B" ∷ "U" ∷ "U2" ∷ "V2" ∷ []) (at_number "Go" 1) always (plain "Out" ∷ []) ∷
    stay "A" (at_number "Go" 2) always [] ∷
    [])

abbrev pub deep_body : Body
deep_body = All' (tt ∷ [])
    (more_of-StateDecl (name "P") None deep_body_p end_of-StateDecl)

abbrev pub deep : Spec
deep = specification "Deep"
    (range "N" (minus 5) (plus 3) ∷
    enumeration "C" ("Red" ∷ []) ∷
    input "X" (Some (number 2)) "N" (from_number (minus 5)) ∷
    input "Col" None "C" (from_name "Red") ∷
    event "Go" (Some (number 2)) ∷
    event "Out" None ∷
    constant "K" (plus 2) ∷
    macro "Low" (Some (number 2)) (row (phrase (compares (just (of (at_this "X"))) Less (just (digits 0)))) (T ∷ []) ∷ []) ∷
    macro "AnyLow" None (row (some_of "k" (number 2) (is_macro (at_name "Low" "k"))) (T ∷ []) ∷ []) ∷
    macro "AllLow" None (row (every_of "k" (named "K") (is_macro (at_name "Low" "k"))) (T ∷ []) ∷ []) ∷
    function "Sum" (Some (number 2)) (case (total (add (of (at_this "X")) ∷ less (previous (at_name "X" "K")) ∷ [])) (when (row (phrase (is_macro (at_this "Low"))) (T ∷ []) ∷ [])) ∷
    case (total (less (digits 1) ∷ [])) (when (row (phrase (is_macro (at_this "Low"))) (F ∷ []) ∷ [])) ∷
    []) ∷
    function "Shade" None (case (just (of (plain "Red"))) always ∷
    []) ∷
    receive "R" (Some (number 2)) (at_this "X" ∷ plain "Col" ∷ []) (at_this "Go") ∷
    send "S" (Some (number 2)) ("A" ∷ "B" ∷ "D" ∷ []) (send_case (at_this "Go") (when (row (phrase (is_macro (plain "AnyLow"))) (T ∷ []) ∷ [])) (sends (value_of (at_this "Sum") ∷ value (total (less (digits 3) ∷ add (of (at_number "X" 1)) ∷ less (of (at_name "X" "K")) ∷ [])) ∷ value_of (plain "Shade") ∷ [])) ∷
    send_case (at_this "Go") (when (row (phrase (is_macro (plain "AnyLow"))) (F ∷ []) ∷ [])) quiet ∷
    send_case (plain "Out") (when (row (phrase (is_function (at_this "Sum") GreaterEqual (just (digits 0)))) (T ∷ []) ∷ [])) (sends (value (just (digits 1)) ∷ value (total (less (digits 1) ∷ [])) ∷ value (just (of (plain "Red"))) ∷ [])) ∷
    send_case (plain "Out") (when (row (phrase (is_function (at_this "Sum") GreaterEqual (just (digits 0)))) (F ∷ []) ∷ [])) quiet ∷
    []) ∷
    send "E" None [] (send_case (plain "Out") always (sends []) ∷
    []) ∷
    [])
    "Top" deep_body
