-- A specification of the examples, as a value. tools/syntax_values.py writes this file.
use Rattle.std.specs.Prelude.{[], ◌∷◌, None}
use Rattle.rsml_syntax.specs.declared.syntax.Spec.{Spec}
use Rattle.rsml_syntax.specs.declared.syntax.Body.{Body, Basic, One', All', end_of-StateDecl, more_of-StateDecl}
use Rattle.rsml_meaning.proofs.Written.{always, event, name, plain, receive, specification, stay}

abbrev pub fork_body_l : Body
fork_body_l = One' (name "P") (tt ∷ [])
    (more_of-StateDecl (name "P") None Basic end_of-StateDecl) []
    (stay "P" (plain "Go") always (plain "E" ∷ []) ∷
    stay "P" (plain "G") always (plain "Done" ∷ []) ∷
    [])

abbrev pub fork_body_r : Body
fork_body_r = One' (name "Q") (tt ∷ [])
    (more_of-StateDecl (name "Q") None Basic end_of-StateDecl) []
    (stay "Q" (plain "Go") always (plain "G" ∷ []) ∷
    stay "Q" (plain "E") always (plain "Done" ∷ []) ∷
    [])

abbrev pub fork_body : Body
fork_body = All' (tt ∷ tt ∷ [])
    (more_of-StateDecl (name "L") None fork_body_l
    (more_of-StateDecl (name "R") None fork_body_r end_of-StateDecl))

abbrev pub fork : Spec
fork = specification "Fork"
    (event "Go" None ∷
    event "E" None ∷
    event "G" None ∷
    event "Done" None ∷
    receive "Kick" None [] (plain "Go") ∷
    [])
    "Fork" fork_body
