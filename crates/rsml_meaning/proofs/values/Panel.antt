-- A specification of the examples, as a value. tools/syntax_values.py writes this file.
use Rattle.std.specs.Prelude.{[], ◌∷◌, None}
use Rattle.rsml_syntax.specs.declared.syntax.Spec.{Spec}
use Rattle.rsml_syntax.specs.declared.syntax.Body.{Basic}
use Rattle.rsml_meaning.proofs.Written.{Equal, F, T, compares, enumeration, event, from_name, input, just, of, phrase, plain, quiet, receive, row, send, send_case, sends, specification, value, when}

abbrev pub panel : Spec
panel = specification "Panel"
    (enumeration "Switch" ("Down" ∷ "Up" ∷ []) ∷
    input "Lever" None "Switch" (from_name "Down") ∷
    event "Tick" None ∷
    receive "Set" None (plain "Lever" ∷ []) (plain "Tick") ∷
    send "Light" None ("Colour" ∷ []) (send_case (plain "Tick") (when (row (phrase (compares (just (of (plain "Lever"))) Equal (just (of (plain "Up"))))) (T ∷ []) ∷ [])) (sends (value (just (of (plain "Up"))) ∷ [])) ∷
    send_case (plain "Tick") (when (row (phrase (compares (just (of (plain "Lever"))) Equal (just (of (plain "Up"))))) (F ∷ []) ∷ [])) quiet ∷
    []) ∷
    [])
    "Panel" Basic
