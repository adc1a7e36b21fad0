-- A specification of the examples, as a value. tools/syntax_values.py writes this file.
use Rattle.std.specs.Prelude.{[], ◌∷◌, Some, None}
use Rattle.rsml_syntax.specs.declared.syntax.Spec.{Spec}
use Rattle.rsml_syntax.specs.declared.syntax.Body.{Body, Basic, One', All', end_of-StateDecl, more_of-StateDecl}
use Rattle.rsml_meaning.proofs.Written.{F, GreaterEqual, T, at_this, compares, digits, event, from_number, input, just, move, name, number, of, phrase, plus, range, receive, row, specification, stay, when}

abbrev pub tracks_body_other : Body
tracks_body_other = One' (name "Far") (tt ∷ tt ∷ [])
    (more_of-StateDecl (name "Far") None Basic
    (more_of-StateDecl (name "Near") None Basic end_of-StateDecl)) []
    (move "Far" ("Near" ∷ []) (at_this "Seen") (when (row (phrase (compares (just (of (at_this "Other_Alt"))) GreaterEqual (just (digits 300)))) (T ∷ []) ∷ [])) [] ∷
    stay "Far" (at_this "Seen") (when (row (phrase (compares (just (of (at_this "Other_Alt"))) GreaterEqual (just (digits 300)))) (F ∷ []) ∷ [])) [] ∷
    move "Near" ("Far" ∷ []) (at_this "Seen") (when (row (phrase (compares (just (of (at_this "Other_Alt"))) GreaterEqual (just (digits 300)))) (F ∷ []) ∷ [])) [] ∷
    stay "Near" (at_this "Seen") (when (row (phrase (compares (just (of (at_this "Other_Alt"))) GreaterEqual (just (digits 300)))) (T ∷ []) ∷ [])) [] ∷
    [])

abbrev pub tracks_body : Body
tracks_body = All' (tt ∷ [])
    (more_of-StateDecl (name "Other") (Some (number 3)) tracks_body_other end_of-StateDecl)

abbrev pub tracks : Spec
tracks = specification "Tracks"
    (range "Feet" (plus 0) (plus 500) ∷
    input "Other_Alt" (Some (number 3)) "Feet" (from_number (plus 0)) ∷
    event "Seen" (Some (number 3)) ∷
    receive "Track" (Some (number 3)) (at_this "Other_Alt" ∷ []) (at_this "Seen") ∷
    [])
    "Sky" tracks_body
