-- A specification of the examples, as a value. tools/syntax_values.py writes this file.
use Rattle.std.specs.Prelude.{[], ◌∷◌, None}
use Rattle.rsml_syntax.specs.declared.syntax.Spec.{Spec}
use Rattle.rsml_syntax.specs.declared.syntax.Body.{Body, Basic, One', end_of-StateDecl, more_of-StateDecl}
use Rattle.rsml_meaning.proofs.Written.{GreaterEqual, Less, T, compares, digits, event, from_number, input, just, name, of, phrase, plain, plus, range, receive, row, specification, stay, when}

abbrev pub height_body : Body
height_body = One' (name "Low") (tt ∷ [])
    (more_of-StateDecl (name "Low") None Basic end_of-StateDecl) []
    (stay "Low" (plain "Tick") (when (row (phrase (compares (just (of (plain "Alt"))) Less (just (digits 1000)))) (T ∷ []) ∷ [])) [] ∷
    stay "Low" (plain "Tick") (when (row (phrase (compares (just (of (plain "Alt"))) GreaterEqual (just (digits 1000)))) (T ∷ []) ∷ [])) [] ∷
    [])

abbrev pub height : Spec
height = specification "Height"
    (range "Feet" (plus 0) (plus 60000) ∷
    input "Alt" None "Feet" (from_number (plus 0)) ∷
    event "Tick" None ∷
    receive "Set" None (plain "Alt" ∷ []) (plain "Tick") ∷
    [])
    "Height" height_body
