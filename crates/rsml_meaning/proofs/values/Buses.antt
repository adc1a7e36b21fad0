-- A specification of the examples, as a value. tools/syntax_values.py writes this file.
use Rattle.std.specs.Prelude.{[], ◌∷◌, None}
use Rattle.rsml_syntax.specs.declared.syntax.Spec.{Spec}
use Rattle.rsml_syntax.specs.declared.syntax.Body.{Body, Basic, One', end_of-StateDecl, more_of-StateDecl}
use Rattle.rsml_meaning.proofs.Written.{always, bus, enumeration, event, from_name, input, move, name, plain, receive, specification}

abbrev pub buses_body : Body
buses_body = One' (name "A") (tt ∷ tt ∷ tt ∷ [])
    (more_of-StateDecl (name "A") None Basic
    (more_of-StateDecl (name "B") None Basic
    (more_of-StateDecl (name "C") None Basic end_of-StateDecl))) (bus "Any" ("A" ∷ "B" ∷ "C" ∷ []) ∷ [])
    (move "Any" ("B" ∷ []) (plain "Tick") always [] ∷
    [])

abbrev pub buses : Spec
buses = specification "Bus"
    (enumeration "Switch" ("Down" ∷ "Up" ∷ []) ∷
    input "Lever" None "Switch" (from_name "Down") ∷
    event "Tick" None ∷
    receive "Set" None (plain "Lever" ∷ []) (plain "Tick") ∷
    [])
    "Top" buses_body
