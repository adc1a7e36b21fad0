-- A specification of the examples, as a value. tools/syntax_values.py writes this file.
use Rattle.std.specs.Prelude.{[], ◌∷◌, None}
use Rattle.rsml_syntax.specs.declared.syntax.Spec.{Spec}
use Rattle.rsml_syntax.specs.declared.syntax.Body.{Body, Basic, One', All', end_of-StateDecl, more_of-StateDecl}
use Rattle.rsml_meaning.proofs.Written.{always, event, name, plain, receive, send, send_case, sends, specification, stay}

abbrev pub told_twice_body_x : Body
told_twice_body_x = One' (name "A") (tt ∷ [])
    (more_of-StateDecl (name "A") None Basic end_of-StateDecl) []
    (stay "A" (plain "G") always (plain "I" ∷ plain "H" ∷ []) ∷
    [])

abbrev pub told_twice_body : Body
told_twice_body = All' (tt ∷ [])
    (more_of-StateDecl (name "X") None told_twice_body_x end_of-StateDecl)

abbrev pub told_twice : Spec
told_twice = specification "SC"
    (event "G" None ∷
    event "H" None ∷
    event "I" None ∷
    receive "R" None [] (plain "G") ∷
    send "S" None [] (send_case (plain "H") always (sends []) ∷
    send_case (plain "I") always (sends []) ∷
    []) ∷
    [])
    "Tp" told_twice_body
