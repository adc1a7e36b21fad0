-- A specification of the examples, as a value. tools/syntax_values.py writes this file.
use Rattle.std.specs.Prelude.{[], ◌∷◌, None}
use Rattle.rsml_syntax.specs.declared.syntax.Spec.{Spec}
use Rattle.rsml_syntax.specs.declared.syntax.Body.{Body, Basic, One', All', end_of-StateDecl, more_of-StateDecl}
use Rattle.rsml_meaning.proofs.Written.{F, T, always, event, in_state, move, name, phrase, plain, receive, row, specification, stay, when}

abbrev pub pair_body_l : Body
pair_body_l = One' (name "L0") (tt ∷ tt ∷ [])
    (more_of-StateDecl (name "L0") None Basic
    (more_of-StateDecl (name "L1") None Basic end_of-StateDecl)) []
    (move "L0" ("L1" ∷ []) (plain "Tick") (when (row (phrase (in_state (plain "Pair" ∷ plain "R" ∷ plain "R0" ∷ []))) (T ∷ []) ∷ [])) [] ∷
    stay "L0" (plain "Tick") (when (row (phrase (in_state (plain "Pair" ∷ plain "R" ∷ plain "R0" ∷ []))) (F ∷ []) ∷ [])) [] ∷
    stay "L1" (plain "Tick") always [] ∷
    [])

abbrev pub pair_body_r : Body
pair_body_r = One' (name "R0") (tt ∷ tt ∷ [])
    (more_of-StateDecl (name "R0") None Basic
    (more_of-StateDecl (name "R1") None Basic end_of-StateDecl)) []
    (move "R0" ("R1" ∷ []) (plain "Tick") (when (row (phrase (in_state (plain "Pair" ∷ plain "L" ∷ plain "L0" ∷ []))) (T ∷ []) ∷ [])) [] ∷
    stay "R0" (plain "Tick") (when (row (phrase (in_state (plain "Pair" ∷ plain "L" ∷ plain "L0" ∷ []))) (F ∷ []) ∷ [])) [] ∷
    stay "R1" (plain "Tick") always [] ∷
    [])

abbrev pub pair_body : Body
pair_body = All' (tt ∷ tt ∷ [])
    (more_of-StateDecl (name "L") None pair_body_l
    (more_of-StateDecl (name "R") None pair_body_r end_of-StateDecl))

abbrev pub pair : Spec
pair = specification "Pair"
    (event "Tick" None ∷
    receive "Beat" None [] (plain "Tick") ∷
    [])
    "Pair" pair_body
