-- A specification of the examples, as a value. tools/syntax_values.py writes this file.
use Rattle.std.specs.Prelude.{[], ◌∷◌, None}
use Rattle.rsml_syntax.specs.declared.syntax.Spec.{Spec}
use Rattle.rsml_syntax.specs.declared.syntax.Body.{Body, Basic, One', end_of-StateDecl, more_of-StateDecl}
use Rattle.rsml_meaning.proofs.Written.{Dot, F, Greater, Less, LessEqual, NotEqual, T, compares, digits, event, from_number, input, just, less, minus, name, of, phrase, plain, plus, previous, range, receive, row, specification, stay, total, when}

abbrev pub both_body : Body
both_body = One' (name "S") (tt ∷ [])
    (more_of-StateDecl (name "S") None Basic end_of-StateDecl) []
    (stay "S" (plain "E") (when (row (phrase (compares (just (of (plain "X"))) NotEqual (just (previous (plain "X"))))) (T ∷ Dot ∷ []) ∷ row (phrase (compares (just (of (plain "X"))) LessEqual (total (less (digits 1) ∷ [])))) (Dot ∷ T ∷ []) ∷ row (phrase (compares (just (of (plain "Y"))) Greater (just (digits 0)))) (F ∷ Dot ∷ []) ∷ [])) [] ∷
    stay "S" (plain "E") (when (row (phrase (compares (just (of (plain "X"))) Less (just (digits 0)))) (T ∷ []) ∷ [])) [] ∷
    [])

abbrev pub both : Spec
both = specification "Both"
    (range "N" (minus 2) (plus 1) ∷
    input "X" None "N" (from_number (plus 0)) ∷
    input "Y" None "N" (from_number (minus 1)) ∷
    event "E" None ∷
    receive "R" None (plain "X" ∷ plain "Y" ∷ []) (plain "E") ∷
    [])
    "Tp" both_body
