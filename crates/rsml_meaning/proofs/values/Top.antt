-- A specification of the examples, as a value. tools/syntax_values.py writes this file.
use Rattle.std.specs.Prelude.{[], ◌∷◌, None}
use Rattle.rsml_syntax.specs.declared.syntax.Spec.{Spec}
use Rattle.rsml_syntax.specs.declared.syntax.Body.{Body, Basic, One', end_of-StateDecl, more_of-StateDecl}
use Rattle.rsml_meaning.proofs.Written.{Equal, F, T, always, compares, enumeration, event, from_name, input, just, move, name, of, phrase, plain, receive, row, specification, stay, when}

abbrev pub top_body_a : Body
top_body_a = One' (name "B") (tt ∷ [])
    (more_of-StateDecl (name "B") None Basic end_of-StateDecl) []
    (stay "B" (plain "Tick") (when (row (phrase (compares (just (of (plain "Lever"))) Equal (just (of (plain "Up"))))) (F ∷ []) ∷ [])) [] ∷
    [])

abbrev pub top_body : Body
top_body = One' (name "A") (tt ∷ tt ∷ [])
    (more_of-StateDecl (name "A") None top_body_a
    (more_of-StateDecl (name "C") None Basic end_of-StateDecl)) []
    (move "A" ("C" ∷ []) (plain "Tick") (when (row (phrase (compares (just (of (plain "Lever"))) Equal (just (of (plain "Up"))))) (T ∷ []) ∷ [])) [] ∷
    stay "C" (plain "Tick") always [] ∷
    [])

abbrev pub top : Spec
top = specification "Top"
    (enumeration "Switch" ("Down" ∷ "Up" ∷ []) ∷
    input "Lever" None "Switch" (from_name "Down") ∷
    event "Tick" None ∷
    receive "Set" None (plain "Lever" ∷ []) (plain "Tick") ∷
    [])
    "Top" top_body
