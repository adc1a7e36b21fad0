-- A specification of the examples, as a value. tools/syntax_values.py writes this file.
use Rattle.std.specs.Prelude.{[], ◌∷◌, None}
use Rattle.rsml_syntax.specs.declared.syntax.Spec.{Spec}
use Rattle.rsml_syntax.specs.declared.syntax.Body.{Body, Basic, One', end_of-StateDecl, more_of-StateDecl}
use Rattle.rsml_meaning.proofs.Written.{Equal, F, Less, T, case, compares, digits, enumeration, event, from_number, function, input, is_function, just, name, of, phrase, plain, plus, range, receive, row, specification, stay, when}

abbrev pub grades_body : Body
grades_body = One' (name "Low") (tt ∷ [])
    (more_of-StateDecl (name "Low") None Basic end_of-StateDecl) []
    (stay "Low" (plain "Tick") (when (row (phrase (is_function (plain "Level") Equal (just (of (plain "High"))))) (T ∷ []) ∷ [])) [] ∷
    stay "Low" (plain "Tick") (when (row (phrase (is_function (plain "Level") Equal (just (of (plain "High"))))) (F ∷ []) ∷ [])) [] ∷
    [])

abbrev pub grades : Spec
grades = specification "Grades"
    (range "Feet" (plus 0) (plus 60000) ∷
    input "Alt" None "Feet" (from_number (plus 0)) ∷
    event "Tick" None ∷
    receive "Set" None (plain "Alt" ∷ []) (plain "Tick") ∷
    enumeration "Grade" ("Low" ∷ "High" ∷ []) ∷
    function "Level" None (case (just (of (plain "Low"))) (when (row (phrase (compares (just (of (plain "Alt"))) Less (just (digits 1000)))) (T ∷ []) ∷ [])) ∷
    case (just (of (plain "High"))) (when (row (phrase (compares (just (of (plain "Alt"))) Less (just (digits 500)))) (F ∷ []) ∷ [])) ∷
    []) ∷
    [])
    "Height" grades_body
