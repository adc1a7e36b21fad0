-- A specification of the examples, as a value. tools/syntax_values.py writes this file.
use Rattle.std.specs.Prelude.{[], ◌∷◌, None}
use Rattle.rsml_syntax.specs.declared.syntax.Spec.{Spec}
use Rattle.rsml_syntax.specs.declared.syntax.Body.{Body, Basic, One', end_of-StateDecl, more_of-StateDecl}
use Rattle.rsml_meaning.proofs.Written.{Equal, F, Greater, GreaterEqual, Less, NotEqual, T, case, compares, constant, digits, enumeration, event, from_number, function, input, is_function, just, minus, name, of, phrase, plain, plus, range, receive, row, specification, stay, when}

abbrev pub shades_body : Body
shades_body = One' (name "S") (tt ∷ [])
    (more_of-StateDecl (name "S") None Basic end_of-StateDecl) []
    (stay "S" (plain "E") (when (row (phrase (is_function (plain "F1") Equal (just (digits 2)))) (T ∷ []) ∷ [])) [] ∷
    stay "S" (plain "E") (when (row (phrase (is_function (plain "F1") Equal (just (digits 2)))) (F ∷ []) ∷ [])) [] ∷
    [])

abbrev pub shades : Spec
shades = specification "Fn"
    (enumeration "C" ("Red" ∷ "Blue" ∷ []) ∷
    range "N" (plus 0) (plus 2) ∷
    input "X" None "N" (from_number (plus 0)) ∷
    event "E" None ∷
    constant "Top_Of_N" (plus 2) ∷
    constant "Low" (minus 1) ∷
    receive "R" None (plain "X" ∷ []) (plain "E") ∷
    function "F1" None (case (just (digits 0)) (when (row (phrase (compares (just (of (plain "X"))) Equal (just (digits 0)))) (T ∷ []) ∷ [])) ∷
    case (just (digits 1)) (when (row (phrase (compares (just (of (plain "X"))) GreaterEqual (just (digits 1)))) (T ∷ []) ∷ [])) ∷
    case (just (digits 2)) (when (row (phrase (compares (just (of (plain "X"))) Greater (just (digits 1)))) (T ∷ []) ∷ [])) ∷
    case (just (of (plain "Top_Of_N"))) (when (row (phrase (compares (just (of (plain "X"))) Equal (just (of (plain "Top_Of_N"))))) (T ∷ []) ∷ [])) ∷
    case (just (of (plain "Low"))) (when (row (phrase (compares (just (of (plain "X"))) NotEqual (just (digits 0)))) (F ∷ []) ∷ [])) ∷
    []) ∷
    function "G1" None (case (just (of (plain "Red"))) (when (row (phrase (is_function (plain "F1") Equal (just (digits 1)))) (T ∷ []) ∷ [])) ∷
    case (just (of (plain "Blue"))) (when (row (phrase (is_function (plain "F1") Less (just (of (plain "Top_Of_N"))))) (T ∷ []) ∷ [])) ∷
    []) ∷
    [])
    "Tp" shades_body
