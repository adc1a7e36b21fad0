-- A specification of the examples, as a value. tools/syntax_values.py writes this file.
use Rattle.std.specs.Prelude.{[], ◌∷◌, None}
use Rattle.rsml_syntax.specs.declared.syntax.Spec.{Spec}
use Rattle.rsml_syntax.specs.declared.syntax.Body.{Body, Basic, One', All', end_of-StateDecl, more_of-StateDecl}
use Rattle.rsml_meaning.proofs.Written.{always, event, name, plain, receive, specification, stay}

abbrev pub meet_body_l : Body
meet_body_l = One' (name "P") (tt ∷ [])
    (more_of-StateDecl (name "P") None Basic end_of-StateDecl) []
    (stay "P" (plain "Go") always (plain "E" ∷ []) ∷
    [])

abbrev pub meet_body_r : Body
meet_body_r = One' (name "Q") (tt ∷ [])
    (more_of-StateDecl (name "Q") None Basic end_of-StateDecl) []
    (stay "Q" (plain "Go") always (plain "G" ∷ []) ∷
    [])

abbrev pub meet_body_m : Body
meet_body_m = One' (name "S") (tt ∷ [])
    (more_of-StateDecl (name "S") None Basic end_of-StateDecl) []
    (stay "S" (plain "E") always [] ∷
    stay "S" (plain "G") always [] ∷
    [])

abbrev pub meet_body : Body
meet_body = All' (tt ∷ tt ∷ tt ∷ [])
    (more_of-StateDecl (name "L") None meet_body_l
    (more_of-StateDecl (name "R") None meet_body_r
    (more_of-StateDecl (name "M") None meet_body_m end_of-StateDecl)))

abbrev pub meet : Spec
meet = specification "Meet"
    (event "Go" None ∷
    event "E" None ∷
    event "G" None ∷
    receive "Kick" None [] (plain "Go") ∷
    [])
    "Meet" meet_body
