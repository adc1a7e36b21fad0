-- A specification of the examples, as a value. tools/syntax_values.py writes this file.
use Rattle.std.specs.Prelude.{[], ◌∷◌, None}
use Rattle.rsml_syntax.specs.declared.syntax.Spec.{Spec}
use Rattle.rsml_syntax.specs.declared.syntax.Body.{Body, Basic, One', end_of-StateDecl, more_of-StateDecl}
use Rattle.rsml_meaning.proofs.Written.{always, event, move, name, plain, receive, specification, stay}

abbrev pub nest_body_a : Body
nest_body_a = One' (name "X") (tt ∷ tt ∷ [])
    (more_of-StateDecl (name "X") None Basic
    (more_of-StateDecl (name "Y") None Basic end_of-StateDecl)) []
    (move "X" ("Y" ∷ []) (plain "Go") always [] ∷
    stay "Y" (plain "Go") always [] ∷
    [])

abbrev pub nest_body : Body
nest_body = One' (name "A") (tt ∷ [])
    (more_of-StateDecl (name "A") None nest_body_a end_of-StateDecl) []
    (move "A" ("A" ∷ []) (plain "Reset") always [] ∷
    move "A" ("A" ∷ "Y" ∷ []) (plain "Jump") always [] ∷
    [])

abbrev pub nest : Spec
nest = specification "Nest"
    (event "Go" None ∷
    event "Reset" None ∷
    event "Jump" None ∷
    receive "Push" None [] (plain "Go") ∷
    receive "Clear" None [] (plain "Reset") ∷
    receive "Leap" None [] (plain "Jump") ∷
    [])
    "Top" nest_body
