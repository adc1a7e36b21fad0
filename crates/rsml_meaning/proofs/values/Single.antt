-- A specification of the examples, as a value. tools/syntax_values.py writes this file.
use Rattle.std.specs.Prelude.{[], ◌∷◌, None}
use Rattle.rsml_syntax.specs.declared.syntax.Spec.{Spec}
use Rattle.rsml_syntax.specs.declared.syntax.Body.{Basic}
use Rattle.rsml_meaning.proofs.Written.{always, enumeration, event, from_name, input, just, of, plain, receive, send, send_case, sends, specification, value}

abbrev pub single : Spec
single = specification "One"
    (enumeration "V" ("A" ∷ []) ∷
    input "X" None "V" (from_name "A") ∷
    event "E" None ∷
    receive "R" None (plain "X" ∷ []) (plain "E") ∷
    send "Z" None ("Fld" ∷ []) (send_case (plain "E") always (sends (value (just (of (plain "X"))) ∷ [])) ∷
    []) ∷
    [])
    "S" Basic
