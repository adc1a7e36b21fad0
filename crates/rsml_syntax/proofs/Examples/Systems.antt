-- Specifications as their users write them keep all rules and limits.
use Rattle.std.specs.Prelude.{◌≡◌, [], ◌∷◌, Some, None, refl}
use Rattle.rsml_syntax.specs.declared.syntax.Spec.{Spec}
use Rattle.rsml_syntax.specs.declared.syntax.Relation.TheVariants as relations
use Rattle.rsml_syntax.specs.declared.syntax.Body.{Basic}
use Rattle.rsml_syntax.specs.limits.Limits.{total, states_at, cells_at, thresholds_and_keys, Keeps}
use Rattle.rsml_syntax.proofs.Examples.Writing.{up_to, plus, minus, plain, by, this, name, previous, single, in_state, holds, compare, row, some, always, table, enumeration, range, constant, from, from_name, input, event, macro, case, function, receive, sent, given, answer, on, send, state, array, all, one, bus, move, stay, specification, the, num}

-- a collision avoidance system with 30 other aircraft
abbrev tcas : Spec
tcas =
    specification "Tcas"
    (enumeration "Power" ("Standby" ∷ "Active" ∷ [])
    ∷ enumeration "Level" ("Clear" ∷ "Traffic" ∷ "Resolution" ∷ [])
    ∷ range "Feet" (minus 1000) (plus 60000)
    ∷ range "Seconds" (plus 0) (plus 255)
    ∷ constant "Floor" (plus 1000)
    ∷ input "Selector" None "Power" (from_name "Standby")
    ∷ input "Own_Alt" None "Feet" (from (plus 0))
    ∷ input "Tau" (Some (up_to 30)) "Seconds" (from (plus 255))
    ∷ event "Own" None
    ∷ event "Scan" (Some (up_to 30))
    ∷ event "Show" None
    ∷ macro "Enabled" None
    (row (in_state (plain "Tcas" ∷ plain "Mode" ∷ plain "On" ∷ [])) "T"
    ∷ row (compare (the "Own_Alt") relations.GreaterEqual (the "Floor")) "T"
    ∷ [])
    ∷ macro "Threat" (Some (up_to 30))
    (row (holds (plain "Enabled")) "T" ∷ row (compare (single (name (this "Tau"))) relations.Less (num 25)) "T" ∷ [])
    ∷ macro "Near" (Some (up_to 30))
    (row (holds (plain "Enabled")) "T" ∷ row (compare (single (name (this "Tau"))) relations.Less (num 40)) "T" ∷ [])
    ∷ function "Worst" None
    (case (the "Resolution") (table (some "k" (up_to 30) (in_state (plain "Tcas" ∷ by "Other" "k" ∷ plain "Threat" ∷ [])) "T" ∷ []))
    ∷ case (the "Traffic") (table
    (some "k" (up_to 30) (in_state (plain "Tcas" ∷ by "Other" "k" ∷ plain "Threat" ∷ [])) "F"
    ∷ some "k" (up_to 30) (in_state (plain "Tcas" ∷ by "Other" "k" ∷ plain "Near" ∷ [])) "T"
    ∷ []))
    ∷ case (the "Clear") (table
    (some "k" (up_to 30) (in_state (plain "Tcas" ∷ by "Other" "k" ∷ plain "Threat" ∷ [])) "F"
    ∷ some "k" (up_to 30) (in_state (plain "Tcas" ∷ by "Other" "k" ∷ plain "Near" ∷ [])) "F"
    ∷ []))
    ∷ [])
    ∷ receive "Pilot" None (plain "Selector" ∷ plain "Own_Alt" ∷ []) (plain "Own")
    ∷ receive "Radar" (Some (up_to 30)) (this "Tau" ∷ []) (this "Scan")
    ∷ send "Display" None ("Advice" ∷ "Height" ∷ [])
    (on (plain "Show") always (answer (given (plain "Worst") ∷ sent (the "Own_Alt") ∷ [])) ∷ [])
    ∷ [])
    "Tcas"
    (all
    (state "Mode" (one "Off" (state "Off" Basic ∷ state "On" Basic ∷ []) []
    (move "Off" ("On" ∷ []) (plain "Own") (table (row (compare (the "Selector") relations.Equal (the "Active")) "T" ∷ []))
    (plain "Show" ∷ [])
    ∷ stay "Off" (plain "Own") (table (row (compare (the "Selector") relations.Equal (the "Active")) "F" ∷ [])) []
    ∷ move "On" ("Off" ∷ []) (plain "Own") (table (row (compare (the "Selector") relations.Equal (the "Active")) "F" ∷ []))
    (plain "Show" ∷ [])
    ∷ stay "On" (plain "Own") (table (row (compare (the "Selector") relations.Equal (the "Active")) "T" ∷ [])) (plain "Show" ∷ [])
    ∷ []))
    ∷ array "Other" (up_to 30) (one "Far" (state "Far" Basic ∷ state "Near" Basic ∷ state "Threat" Basic ∷ []) (bus "Any" ("Far" ∷ "Near" ∷ "Threat" ∷ []) ∷ [])
    (move "Any" ("Threat" ∷ []) (this "Scan") (table (row (holds (this "Threat")) "T" ∷ [])) (plain "Show" ∷ [])
    ∷ move "Any" ("Near" ∷ []) (this "Scan") (table (row (holds (this "Threat")) "F" ∷ row (holds (this "Near")) "T" ∷ []))
    (plain "Show" ∷ [])
    ∷ move "Any" ("Far" ∷ []) (this "Scan") (table (row (holds (this "Threat")) "F" ∷ row (holds (this "Near")) "F" ∷ [])) (plain "Show" ∷ [])
    ∷ []))
    ∷ []))

tcas_is_kept : Keeps tcas
tcas_is_kept = record { rules = refl; limits = refl }

state_instances_of_tcas : total states_at tcas ≡ 124
state_instances_of_tcas = refl

cells_of_tcas : total (cells_at tcas) tcas ≡ 32
cells_of_tcas = refl

-- an aircraft that looks at its previous altitude
abbrev climb : Spec
climb =
    specification "Climb"
    (range "Feet" (plus 0) (plus 9)
    ∷ input "Alt" None "Feet" (from (plus 0))
    ∷ event "Tick" None
    ∷ receive "Set" None (plain "Alt" ∷ []) (plain "Tick")
    ∷ [])
    "Climb"
    (one "Level" (state "Level" Basic ∷ state "High" Basic ∷ []) []
    (move "Level" ("High" ∷ []) (plain "Tick") (table
    (row (compare (single (previous (plain "Alt"))) relations.Less (num 5)) "T"
    ∷ row (compare (the "Alt") relations.GreaterEqual (num 5)) "T"
    ∷ []))
    []
    ∷ stay "Level" (plain "Tick") (table
    (row (compare (single (previous (plain "Alt"))) relations.Less (num 5)) "F."
    ∷ row (compare (the "Alt") relations.GreaterEqual (num 5)) ".F"
    ∷ []))
    []
    ∷ stay "High" (plain "Tick") always []
    ∷ []))

climb_is_kept : Keeps climb
climb_is_kept = record { rules = refl; limits = refl }

-- Alt and its previous value
cells_of_climb : total (cells_at climb) climb ≡ 2
cells_of_climb = refl

-- 5 of each of the two
thresholds_of_climb : thresholds_and_keys climb ≡ 2
thresholds_of_climb = refl
