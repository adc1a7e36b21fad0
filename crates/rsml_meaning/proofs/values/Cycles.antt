-- A specification of the examples, as a value. tools/syntax_values.py writes this file.
use Rattle.std.specs.Prelude.{[], ◌∷◌, None}
use Rattle.rsml_syntax.specs.declared.syntax.Spec.{Spec}
use Rattle.rsml_syntax.specs.declared.syntax.Body.{Body, Basic, One', All', end_of-StateDecl, more_of-StateDecl}
use Rattle.rsml_meaning.proofs.Written.{always, event, name, plain, receive, specification, stay}

abbrev pub cycles_body_l : Body
cycles_body_l = One' (name "S") (tt ∷ [])
    (more_of-StateDecl (name "S") None Basic end_of-StateDecl) []
    (stay "S" (plain "A") always (plain "B" ∷ []) ∷
    stay "S" (plain "B") always (plain "C" ∷ []) ∷
    stay "S" (plain "C") always (plain "B" ∷ []) ∷
    [])

abbrev pub cycles_body_m : Body
cycles_body_m = One' (name "S") (tt ∷ [])
    (more_of-StateDecl (name "S") None Basic end_of-StateDecl) []
    (stay "S" (plain "D") always (plain "D" ∷ []) ∷
    [])

abbrev pub cycles_body : Body
cycles_body = All' (tt ∷ tt ∷ [])
    (more_of-StateDecl (name "L") None cycles_body_l
    (more_of-StateDecl (name "M") None cycles_body_m end_of-StateDecl))

abbrev pub cycles : Spec
cycles = specification "Cycles"
    (event "A" None ∷
    event "B" None ∷
    event "C" None ∷
    event "D" None ∷
    event "Q" None ∷
    receive "R" None [] (plain "A") ∷
    [])
    "Tp" cycles_body
