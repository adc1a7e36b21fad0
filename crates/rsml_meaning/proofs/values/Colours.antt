-- A specification of the examples, as a value. tools/syntax_values.py writes this file.
use Rattle.std.specs.Prelude.{[], ◌∷◌, None}
use Rattle.rsml_syntax.specs.declared.syntax.Spec.{Spec}
use Rattle.rsml_syntax.specs.declared.syntax.Body.{Basic}
use Rattle.rsml_meaning.proofs.Written.{always, enumeration, event, from_name, from_number, input, just, minus, of, plain, plus, range, receive, send, send_case, sends, specification, value}

abbrev pub colours : Spec
colours = specification "Ln"
    (enumeration "C" ("Red" ∷ "Blue" ∷ []) ∷
    range "N" (minus 2) (plus 2) ∷
    input "X" None "N" (from_number (plus 1)) ∷
    input "Y" None "C" (from_name "Blue") ∷
    event "E" None ∷
    receive "R" None (plain "X" ∷ plain "Y" ∷ []) (plain "E") ∷
    send "S" None ("A" ∷ "B" ∷ []) (send_case (plain "E") always (sends (value (just (of (plain "X"))) ∷ value (just (of (plain "Y"))) ∷ [])) ∷
    []) ∷
    [])
    "Tp" Basic
