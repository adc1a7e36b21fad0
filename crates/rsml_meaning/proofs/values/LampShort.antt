-- A specification of the examples, as a value. tools/syntax_values.py writes this file.
use Rattle.std.specs.Prelude.{[], ◌∷◌, None}
use Rattle.rsml_syntax.specs.declared.syntax.Spec.{Spec}
use Rattle.rsml_syntax.specs.declared.syntax.Body.{Body, Basic, One', end_of-StateDecl, more_of-StateDecl}
use Rattle.rsml_meaning.proofs.Written.{Equal, F, T, compares, enumeration, event, from_name, input, just, move, name, of, phrase, plain, receive, row, specification, stay, when}

abbrev pub lamp_short_body : Body
lamp_short_body = One' (name "Off") (tt ∷ tt ∷ [])
    (more_of-StateDecl (name "Off") None Basic
    (more_of-StateDecl (name "On") None Basic end_of-StateDecl)) []
    (move "Off" ("On" ∷ []) (plain "Tick") (when (row (phrase (compares (just (of (plain "Lever"))) Equal (just (of (plain "Up"))))) (T ∷ []) ∷ [])) [] ∷
    stay "Off" (plain "Tick") (when (row (phrase (compares (just (of (plain "Lever"))) Equal (just (of (plain "Up"))))) (F ∷ []) ∷ [])) [] ∷
    move "On" ("Off" ∷ []) (plain "Tick") (when (row (phrase (compares (just (of (plain "Lever"))) Equal (just (of (plain "Down"))))) (T ∷ []) ∷ [])) [] ∷
    [])

abbrev pub lamp_short : Spec
lamp_short = specification "Lamp"
    (enumeration "Switch" ("Down" ∷ "Up" ∷ []) ∷
    input "Lever" None "Switch" (from_name "Down") ∷
    event "Tick" None ∷
    receive "Set" None (plain "Lever" ∷ []) (plain "Tick") ∷
    [])
    "Lamp" lamp_short_body
