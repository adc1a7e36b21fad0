-- A specification of the examples, as a value. tools/syntax_values.py writes this file.
use Rattle.std.specs.Prelude.{[], ◌∷◌, None}
use Rattle.rsml_syntax.specs.declared.syntax.Spec.{Spec}
use Rattle.rsml_syntax.specs.declared.syntax.Body.{Body, Basic, One', All', end_of-StateDecl, more_of-StateDecl}
use Rattle.rsml_meaning.proofs.Written.{always, event, move, name, plain, receive, specification, stay}

abbrev pub ancestor_body_a_x : Body
ancestor_body_a_x = One' (name "B") (tt ∷ [])
    (more_of-StateDecl (name "B") None Basic end_of-StateDecl) []
    (stay "B" (plain "G") always (plain "H" ∷ []) ∷
    [])

abbrev pub ancestor_body_a_y : Body
ancestor_body_a_y = One' (name "C") (tt ∷ [])
    (more_of-StateDecl (name "C") None Basic end_of-StateDecl) []
    (stay "C" (plain "G") always (plain "I" ∷ []) ∷
    stay "C" (plain "I") always [] ∷
    [])

abbrev pub ancestor_body_a : Body
ancestor_body_a = All' (tt ∷ tt ∷ [])
    (more_of-StateDecl (name "X") None ancestor_body_a_x
    (more_of-StateDecl (name "Y") None ancestor_body_a_y end_of-StateDecl))

abbrev pub ancestor_body : Body
ancestor_body = One' (name "A") (tt ∷ [])
    (more_of-StateDecl (name "A") None ancestor_body_a end_of-StateDecl) []
    (move "A" ("A" ∷ []) (plain "H") always [] ∷
    [])

abbrev pub ancestor : Spec
ancestor = specification "An"
    (event "G" None ∷
    event "H" None ∷
    event "I" None ∷
    receive "R" None [] (plain "G") ∷
    [])
    "Tp" ancestor_body
