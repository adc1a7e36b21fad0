-- A specification of the examples, as a value. tools/syntax_values.py writes this file.
use Rattle.std.specs.Prelude.{[], ◌∷◌, None}
use Rattle.rsml_syntax.specs.declared.syntax.Spec.{Spec}
use Rattle.rsml_syntax.specs.declared.syntax.Body.{Body, Basic, One', end_of-StateDecl, more_of-StateDecl}
use Rattle.rsml_meaning.proofs.Written.{always, event, name, plain, receive, specification, stay}

abbrev pub ring_body : Body
ring_body = One' (name "R") (tt ∷ [])
    (more_of-StateDecl (name "R") None Basic end_of-StateDecl) []
    (stay "R" (plain "A") always (plain "B" ∷ []) ∷
    stay "R" (plain "B") always (plain "A" ∷ []) ∷
    [])

abbrev pub ring : Spec
ring = specification "Ring"
    (event "A" None ∷
    event "B" None ∷
    receive "Kick" None [] (plain "A") ∷
    [])
    "Ring" ring_body
