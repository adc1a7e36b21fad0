-- A specification of the examples, as a value. tools/syntax_values.py writes this file.
use Rattle.std.specs.Prelude.{[], ◌∷◌, None}
use Rattle.rsml_syntax.specs.declared.syntax.Spec.{Spec}
use Rattle.rsml_syntax.specs.declared.syntax.Body.{Basic}
use Rattle.rsml_meaning.proofs.Written.{always, event, from_number, input, just, of, plain, plus, previous, range, receive, send, send_case, sends, specification, value}

abbrev pub latch : Spec
latch = specification "Pv"
    (range "N" (plus 0) (plus 2) ∷
    input "X" None "N" (from_number (plus 1)) ∷
    input "Y" None "N" (from_number (plus 2)) ∷
    event "E" None ∷
    receive "R" None (plain "X" ∷ []) (plain "E") ∷
    receive "Q" None (plain "Y" ∷ []) (plain "E") ∷
    send "S" None ("A" ∷ "B" ∷ "C" ∷ "D" ∷ []) (send_case (plain "E") always (sends (value (just (of (plain "X"))) ∷ value (just (previous (plain "X"))) ∷ value (just (of (plain "Y"))) ∷ value (just (previous (plain "Y"))) ∷ [])) ∷
    []) ∷
    [])
    "Tp" Basic
