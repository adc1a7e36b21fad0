-- A specification of the examples, as a value. tools/syntax_values.py writes this file.
use Rattle.std.specs.Prelude.{[], ◌∷◌, None}
use Rattle.rsml_syntax.specs.declared.syntax.Spec.{Spec}
use Rattle.rsml_syntax.specs.declared.syntax.Body.{Body, Basic, One', end_of-StateDecl, more_of-StateDecl}
use Rattle.rsml_meaning.proofs.Written.{F, GreaterEqual, T, add, compares, digits, event, from_number, input, just, less, name, of, phrase, plain, plus, previous, range, receive, row, specification, stay, total, when}

abbrev pub rise_body : Body
rise_body = One' (name "Low") (tt ∷ [])
    (more_of-StateDecl (name "Low") None Basic end_of-StateDecl) []
    (stay "Low" (plain "Tick") (when (row (phrase (compares (total (add (of (plain "Alt")) ∷ less (previous (plain "Alt")) ∷ [])) GreaterEqual (just (digits 10)))) (T ∷ []) ∷ [])) [] ∷
    stay "Low" (plain "Tick") (when (row (phrase (compares (total (add (of (plain "Alt")) ∷ less (previous (plain "Alt")) ∷ [])) GreaterEqual (just (digits 10)))) (F ∷ []) ∷ [])) [] ∷
    [])

abbrev pub rise : Spec
rise = specification "Rise"
    (range "Feet" (plus 0) (plus 100) ∷
    input "Alt" None "Feet" (from_number (plus 0)) ∷
    event "Tick" None ∷
    receive "Set" None (plain "Alt" ∷ []) (plain "Tick") ∷
    [])
    "Rise" rise_body
