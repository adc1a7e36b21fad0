-- A specification of the examples, as a value. tools/syntax_values.py writes this file.
use Rattle.std.specs.Prelude.{[], ◌∷◌, None}
use Rattle.rsml_syntax.specs.declared.syntax.Spec.{Spec}
use Rattle.rsml_syntax.specs.declared.syntax.Body.{Body, Basic, One', end_of-StateDecl, more_of-StateDecl}
use Rattle.rsml_meaning.proofs.Written.{always, event, move, name, plain, receive, specification}

abbrev pub twin_body_a : Body
twin_body_a = One' (name "P") (tt ∷ tt ∷ [])
    (more_of-StateDecl (name "P") None Basic
    (more_of-StateDecl (name "Q") None Basic end_of-StateDecl)) []
    []

abbrev pub twin_body : Body
twin_body = One' (name "A") (tt ∷ [])
    (more_of-StateDecl (name "A") None twin_body_a end_of-StateDecl) []
    (move "A" ("A" ∷ "P" ∷ []) (plain "Tick") always [] ∷
    move "A" ("A" ∷ "Q" ∷ []) (plain "Tick") always [] ∷
    [])

abbrev pub twin : Spec
twin = specification "Twin"
    (event "Tick" None ∷
    receive "Beat" None [] (plain "Tick") ∷
    [])
    "Top" twin_body
